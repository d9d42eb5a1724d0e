use Rattle.std.proofs.Common.{◌≡◌, ℕ, true, List, take}
use Rattle.col_set.specs.Lists.{Listed}
use Rattle.inclusion_merge.specs.Marks.{is_marked}
use Rattle.inclusion_merge.proofs.marks.Marks.insert_cells.Given as goal

abbrev pub invariant-loop-place : goal.invariant-loop-place
invariant-loop-place l = record {
  grows : (a : List ℕ) → is_marked l.initial.self a ≡ true → is_marked l.self a ≡ true;
  each : (a : List ℕ) → Listed a (take l.place l.column) → is_marked l.self a ≡ true;
}
