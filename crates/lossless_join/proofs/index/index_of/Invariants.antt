use Rattle.lossless_join.specs.Indexed.{IsIndex}
use Rattle.lossless_join.proofs.index.index_of.Given as goal

abbrev pub invariant-loop-place : goal.invariant-loop-place
invariant-loop-place l = IsIndex l.table l.columns l.place l.keys.keys l.groups.items
