use Rattle.std.proofs.Common.{◌≡◌, ◌||◌, true, take, []}
use Rattle.std.specs.List.{list_all, list_any}
use Rattle.rel_base.specs.Agreement.{same_cell}
use Rattle.plain_base.proofs.inclusion.are_cells_of.Given as goal

abbrev pub invariant-loop-place : goal.invariant-loop-place
invariant-loop-place l = list_all (λ a. same_cell a [] || list_any (same_cell a) l.column) (take l.place l.cells) ≡ true
