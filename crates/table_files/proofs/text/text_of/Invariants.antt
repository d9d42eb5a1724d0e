use Rattle.std.proofs.Common.{◌≡◌, ◌++◌, map, take}
use Rattle.std.specs.List.{flat_map}
use Rattle.rel_base.specs.Cells.{cell}
use Rattle.rel_base.specs.RowState.{row}
use Rattle.report_text.specs.Line.{line, text_in, IsAtLine}
use Rattle.table_files.proofs.text.text_of.Given as goal

abbrev pub invariant-loop-number : goal.invariant-loop-number
invariant-loop-number l = record {
  at : IsAtLine l.writer;
  text : text_in l.writer ≡ line (map (cell l.rows.names) l.list.items) ++ flat_map (λ number. line (map (cell (row l.rows number)) l.list.items)) (take l.number-index l.numbers);
}
