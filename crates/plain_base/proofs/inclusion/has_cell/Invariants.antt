use Rattle.std.proofs.Common.{◌≡◌, false, take}
use Rattle.std.specs.List.{list_any}
use Rattle.rel_base.specs.Agreement.{same_cell}
use Rattle.plain_base.proofs.inclusion.has_cell.Given as goal

abbrev pub invariant-loop-place : goal.invariant-loop-place
invariant-loop-place l = list_any (same_cell l.cell) (take l.place l.column) ≡ false
