use Rattle.std.proofs.Common.{◌≡◌, take}
use Rattle.lossless_join.specs.NaturalJoin.{columns_of}
use Rattle.lossless_join.proofs.Steps.{IsPartlyJoined}
use Rattle.lossless_join.proofs.natural_join.join.Given as goal

abbrev pub invariant-loop-table : goal.invariant-loop-table
invariant-loop-table l = record {
  done : l.done ≡ columns_of (take l.table-index l.tables);
  rows : IsPartlyJoined l.width (take l.table-index l.tables) l.rows.items;
}
