-- What a worker keeps.
use Rattle.std.specs.Prelude.{◌≡◌, Option, Some, None}
use Rattle.rel_base.specs.JobParts.{JobParts}
use Rattle.refine_pool.specs.declared.bench.Bench.{Bench}

-- there is a bench, which was made for this job
abbrev pub HasJob : Option Bench → JobParts → Type 0
HasJob (Some bench) job = job ≡ bench.job
HasJob None job = ⊥
