use Rattle.std.proofs.Common.{◌≡◌, ◌<◌, ◌^◌, ◌++◌, length, take}
use Rattle.rel_base.proofs.cells.Cells.push_row.Given as goal

abbrev pub invariant-loop-place : goal.invariant-loop-place
invariant-loop-place l = (l.self ≡ l.initial.self ++ take l.place l.row) × (length l.self < 2 ^ 64)
