use Rattle.std.proofs.Common.{◌≡◌, take}
use Rattle.lossless_join.specs.NaturalJoin.{columns_of}
use Rattle.lossless_join.proofs.natural_join.columns_of.Given as goal

abbrev pub invariant-loop-table : goal.invariant-loop-table
invariant-loop-table l = l.columns ≡ columns_of (take l.table-index l.tables)
