use Rattle.col_set.specs.ColSet.{empty, with}
use Rattle.stripped_partition.specs.Stripped.{stripped}
use Rattle.sampler.proofs.Tables.{Partnered}
use Rattle.sampler.proofs.windows.window.Given as goal

abbrev pub invariant-loop-k : goal.invariant-loop-k
invariant-loop-k l = Partnered l.snapshot l.column l.distance l.k (stripped l.snapshot (with empty l.column)) l.partners.items
