-- Partitions of the live rows of a snapshot by columns, as lists of groups of row numbers.
use Rattle.std.specs.Prelude.{◌≡◌, ◌-◌, ◌==◌, ℕ, nat_le, Bool, List, length, map, slice_index}
use Rattle.std.specs.List.{filter, sum_by}
use Rattle.col_set.specs.ColSet.{Columns, subset}
use Rattle.rel_base.specs.CodeTable.{CodeTable}
use Rattle.rel_base.specs.Shows.{code_agree, live_numbers}

-- the group of i: what is the same as it
abbrev pub group_of : (ℕ → ℕ → Bool) → List ℕ → ℕ → List ℕ
group_of same rows i = filter (same i) rows

-- whether i is the first of its group
abbrev pub leads : (ℕ → ℕ → Bool) → List ℕ → ℕ → Bool
leads same rows i = slice_index (group_of same rows i) 0 == i

-- the groups of two or more, each where its first stands
unfoldable pub grouped : (ℕ → ℕ → Bool) → List ℕ → List (List ℕ)
grouped same rows = filter (λ group. nat_le 2 (length group)) (map (group_of same rows) (filter (leads same rows) rows))

-- whether two rows agree on X: they have equal codes in each of its columns
unfoldable pub agree_on : CodeTable → Columns → ℕ → ℕ → Bool
agree_on s x i j = subset x (code_agree s i j)

-- the stripped partition by X: the groups of two live rows or more that agree on X, by their least rows, each ascending
unfoldable pub stripped : CodeTable → Columns → List (List ℕ)
stripped s x = grouped (agree_on s x) (live_numbers s)

-- these are the groups of the stripped partition by some columns
pub record IsPartitionOf (s : CodeTable) (groups : List (List ℕ)) : Type 0 where
  pub columns : Columns
  pub is : groups ≡ stripped s columns

-- e: the sum of the sizes of the groups less their number
unfoldable pub error_of : List (List ℕ) → ℕ
error_of groups = sum_by length groups - length groups
