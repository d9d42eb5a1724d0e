-- The minimal keys of a table by agree sets: X is a key of the projection to S exactly where no two rows agree on X and not on all of S.
use Rattle.std.specs.Prelude.{ℕ, Bool, not, ◌&&◌, List, map}
use Rattle.std.specs.List.{filter, list_any}
use Rattle.col_set.specs.ColSet.{Columns, subset, union, minus, all, all_sets}
use Rattle.col_set.specs.Minimal.{is_minimal}

-- some agree set contains x and lacks a column of s
unfoldable pub told_apart : List Columns → Columns → Columns → Bool
told_apart ws s x = list_any (λ w. subset x w && not (subset s w)) ws

-- the minimal sets inside s that no agree set which lacks a column of s contains, of the sets of n columns in report order
unfoldable pub keys_within : ℕ → List Columns → Columns → List Columns
keys_within n ws s = filter (λ x. subset x s && is_minimal n (λ y. not (told_apart ws s y)) x) (all_sets n)

-- the agree sets that lack a column of s, each with the first n columns outside s
abbrev pub completed : ℕ → Columns → List Columns → List Columns
completed n s ws = map (λ w. union w (minus (all n) s)) (filter (λ w. not (subset s w)) ws)
