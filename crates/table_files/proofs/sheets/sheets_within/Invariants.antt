use Rattle.std.proofs.Common.{◌≡◌, ◌<◌, ◌^◌, ◌++◌, length, map}
use Rattle.std.specs.List.{All}
use Rattle.rel_base.specs.RowState.{width}
use Rattle.rel_base.specs.Shows.{Shows}
use Rattle.table_files.specs.Sheets.{IsSheet, table_behind}
use Rattle.table_files.proofs.sheets.sheets_within.Given as goal

abbrev pub invariant-loop-rest : goal.invariant-loop-rest
invariant-loop-rest g l = record {
  shown : Shows l.snapshot.value l.rows;
  below : All (λ numbered. numbered.1.columns < 2 ^ width l.rows) l.rest;
  are : All (IsSheet l.rows) l.sheets.items;
  told : map table_behind l.sheets.items ++ l.rest ≡ l.numbered;
}

abbrev pub decreases-loop-rest : goal.decreases-loop-rest
decreases-loop-rest g l = length l.rest
