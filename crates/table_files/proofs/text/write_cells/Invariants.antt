use Rattle.std.proofs.Common.{map, take}
use Rattle.rel_base.specs.Cells.{cell}
use Rattle.rel_base.specs.RowState.{row}
use Rattle.report_text.specs.Line.{text_in, HasFields}
use Rattle.table_files.proofs.text.write_cells.Given as goal

abbrev pub invariant-loop-column : goal.invariant-loop-column
invariant-loop-column l = HasFields (text_in l.fn.writer) (map (cell (row l.rows l.number)) (take l.column-index l.columns)) l.writer
