-- The closure of a column set under listed dependencies, in one pass.
use Rattle.std.specs.Prelude.{◌≡◌, ℕ, ◌==◌, nat_lt, nat_le, Bool, ◌&&◌, ◌||◌, List, map}
use Rattle.std.specs.List.{filter, list_any}
use Rattle.col_set.specs.ColSet.{Columns, has, subset, size, union, set_of}
use Rattle.rel_base.specs.declared.dependency.Fd.{Fd}

-- X, and each column that has a listed left side inside X
unfoldable pub closure_of : List Fd → Columns → Columns
closure_of fds x = union x (set_of (map (λ fd. fd.right) (filter (λ fd. subset fd.left x) fds)))

-- whether a column has a listed left side inside X
unfoldable pub has_left_inside : List Fd → Columns → ℕ → Bool
has_left_inside fds x a = list_any (λ fd. (fd.right == a) && subset fd.left x) fds

-- whether a dependency stands before those of a column
abbrev pub is_before : ℕ → Fd → Bool
is_before a fd = nat_lt fd.right a

-- the same, or it is one of that column with at most so many columns on the left
abbrev pub is_short : ℕ → ℕ → Fd → Bool
is_short a most fd = nat_lt fd.right a || ((fd.right == a) && nat_le (size fd.left) most)

-- whether a column is one of those that stand beside a left side inside X
unfoldable pub has_right_inside : List (Columns × Columns) → Columns → ℕ → Bool
has_right_inside sides x a = list_any (λ p. subset p.0 x && has p.1 a) sides

-- left sides, each with columns beside it, tell of every set what dependencies tell
abbrev pub Tells : List Fd → List (Columns × Columns) → Type 0
Tells fds sides = (x : Columns) (a : ℕ) → has_right_inside sides x a ≡ has_left_inside fds x a
