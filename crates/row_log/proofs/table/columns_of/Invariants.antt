use Rattle.std.proofs.Common.{◌≡◌, map}
use Rattle.row_log.specs.Table.{coded_cells}
use Rattle.row_log.proofs.table.columns_of.Given as goal

abbrev pub invariant-loop-each : goal.invariant-loop-each
invariant-loop-each l = l.columns.items ≡ map (coded_cells l.fn.nulls) l.yielded
