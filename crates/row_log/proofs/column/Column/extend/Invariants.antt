use Rattle.std.proofs.Common.{◌≡◌, ◌++◌, take}
use Rattle.row_log.proofs.column.Column.extend.Given as goal

abbrev pub invariant-loop-place : goal.invariant-loop-place
invariant-loop-place l = l.self ≡ record { nulls = l.initial.self.nulls; cells = l.initial.self.cells ++ take l.place l.cells }
