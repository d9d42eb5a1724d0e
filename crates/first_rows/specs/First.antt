-- The first rows of groups.
use Rattle.std.specs.Prelude.{ℕ, Bool, not, ◌&&◌, List, nat_lt}
use Rattle.std.specs.List.{filter, list_any}
use Rattle.col_set.specs.ColSet.{Columns}
use Rattle.rel_base.specs.CodeTable.{CodeTable}
use Rattle.rel_base.specs.Shows.{live_numbers}
use Rattle.stripped_partition.specs.Stripped.{agree_on}

-- whether a row is the same as an earlier one of these
abbrev pub follows : (ℕ → ℕ → Bool) → List ℕ → ℕ → Bool
follows same rows j = list_any (λ i. nat_lt i j && same i j) rows

-- the live rows that agree on X with no earlier live row
unfoldable pub first_rows : CodeTable → Columns → List ℕ
first_rows s x = filter (λ j. not (follows (agree_on s x) (live_numbers s) j)) (live_numbers s)
