use Rattle.std.specs.List.{All}
use Rattle.sampler.specs.Agreeing.{IsNear}
use Rattle.sampler.proofs.sampling.sampled.Given as goal

abbrev pub invariant-loop-column : goal.invariant-loop-column
invariant-loop-column l = All (IsNear l.rows l.snapshot) l.all.items
