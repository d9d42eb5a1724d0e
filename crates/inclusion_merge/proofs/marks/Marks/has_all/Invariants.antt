use Rattle.std.proofs.Common.{◌≡◌, ℕ, true, List, take}
use Rattle.col_set.specs.Lists.{Listed}
use Rattle.inclusion_merge.specs.Marks.{is_marked}
use Rattle.inclusion_merge.proofs.marks.Marks.has_all.Given as goal

abbrev pub invariant-loop-place : goal.invariant-loop-place
invariant-loop-place l = (a : List ℕ) → Listed a (take l.place l.column) → is_marked l.self a ≡ true
