-- How many rows are to be removed for a dependency to hold among the rest.
use Rattle.std.specs.Prelude.{◌≡◌, ◌≤◌, ◌+◌, ◌-◌, ◌⊎◌, ℕ, Bool, List, [], ◌∷◌, ◌++◌, length, map}
use Rattle.std.specs.List.{filter}
use Rattle.col_set.specs.declared.target.Target.{Target}
use Rattle.col_set.specs.ColSet.{Columns}
use Rattle.rel_base.specs.CodeTable.{CodeTable}
use Rattle.rel_base.specs.RowState.{RowState}
use Rattle.rel_base.specs.Shows.{live_numbers, code_sets}
use Rattle.rel_base.specs.Validity.{determined, holds, Holds}
use Rattle.stripped_partition.specs.Removed.{greatest}

-- ---- rows that stay
-- all lists that leave out some of these rows or none
unfoldable pub sublists : List ℕ → List (List ℕ)
sublists [] = [] ∷ []
sublists (row ∷ rows) = map (λ kept. row ∷ kept) (sublists rows) ++ sublists rows

-- the same as a fact: it leaves out the first row, or begins with it
abbrev pub IsSublist : List ℕ → List ℕ → Type 0
IsSublist kept [] = kept ≡ []
IsSublist kept (row ∷ rows) = IsSublist kept rows ⊎ ((rest : List ℕ) × (kept ≡ row ∷ rest) × IsSublist rest rows)

-- the least number of rows whose removal leaves rows that pass a test: all but the longest list that passes
unfoldable pub least_removed : (List ℕ → Bool) → List ℕ → ℕ
least_removed passes rows = length rows - greatest (map length (filter passes (sublists rows)))

-- ---- in a row state
-- the row state of which these rows alone are live
abbrev pub with_live : List ℕ → RowState → RowState
with_live kept r = record r { live = kept }

-- the least number of live rows whose removal makes X determine t
unfoldable pub removed : RowState → Columns → Target → ℕ
removed r x t = least_removed (λ kept. holds (with_live kept r) x t) r.live

-- the same as a fact: X determines t where so many live rows are left out, and where fewer are left out it never does
pub record IsRemoved (r : RowState) (x : Columns) (t : Target) (k : ℕ) : Type 0 where
  pub kept : List ℕ
  pub sublist : IsSublist kept r.live
  pub count : length kept + k ≡ length r.live
  pub determines : Holds (with_live kept r) x t
  pub longest : (other : List ℕ) → IsSublist other r.live → Holds (with_live other r) x t → length other ≤ length kept

-- ---- in a snapshot
-- the same number by the codes of a snapshot
unfoldable pub removed_in : CodeTable → Columns → Target → ℕ
removed_in s x t = least_removed (λ kept. determined (code_sets s kept) x t) (live_numbers s)
