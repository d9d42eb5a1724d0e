-- Minimal dependencies and keys that hold but for a few rows (approximate dependencies, Huhtala, Kärkkäinen, Porkka and Toivonen, 1999).
use Rattle.std.specs.Prelude.{◌≡◌, ◌<◌, ◌≤◌, ◌^◌, ℕ, nat_le, Bool, false, not, ◌&&◌, List, length, map}
use Rattle.std.specs.List.{filter, flat_map}
use Rattle.col_set.specs.declared.target.Target.{Target}
use Rattle.col_set.specs.declared.target.Target.TheVariants.{Col, RowId}
use Rattle.col_set.specs.ColSet.{Columns, IsSubset, upto, all_sets}
use Rattle.col_set.specs.Target.{has_target}
use Rattle.col_set.specs.Minimal.{is_minimal}
use Rattle.rel_base.specs.CodeTable.{CodeTable}
use Rattle.rel_base.specs.RowState.{RowState, width}
use Rattle.approx_fd.specs.declared.found.Approx.{Approx}
use Rattle.approx_fd.specs.declared.found.NearKey.{NearKey}
use Rattle.approx_fd.specs.Removal.{removed, IsRemoved, removed_in}

-- whether x lacks t, at most so many rows are to be removed for x, and more of them for each proper subset
unfoldable pub min_nearly : ℕ → (Columns → ℕ) → ℕ → Target → Columns → Bool
min_nearly n count most t x = not (has_target x t) && is_minimal n (λ y. nat_le (count y) most) x

-- those sets of n columns, in report order
unfoldable pub nearly_least : ℕ → (Columns → ℕ) → ℕ → Target → List Columns
nearly_least n count most t = filter (min_nearly n count most t) (all_sets n)

-- a dependency with how many rows are to be removed for it
abbrev pub approx_of : (Columns → ℕ) → ℕ → Columns → Approx
approx_of count a x = record { fd = record { left = x; right = a }; removed = count x }

-- the minimal left sides of one column, of n, with how many rows are to be removed
abbrev pub approx_to_by : ℕ → (Columns → Target → ℕ) → ℕ → ℕ → List Approx
approx_to_by n count most a = map (approx_of (λ x. count x (Col a)) a) (nearly_least n (λ x. count x (Col a)) most (Col a))

-- of n columns, the minimal dependencies for which at most so many rows are to be removed: by right column, then by left side in report order
unfoldable pub approximate_by : ℕ → (Columns → Target → ℕ) → ℕ → List Approx
approximate_by n count most = flat_map (approx_to_by n count most) (upto n)

-- those of a row state, and of a snapshot by its codes
abbrev pub approximate : ℕ → RowState → List Approx
approximate most r = approximate_by (width r) (removed r) most

abbrev pub approx_to_in : ℕ → CodeTable → ℕ → List Approx
approx_to_in most s = approx_to_by (length s.codes) (removed_in s) most

abbrev pub approximate_in : ℕ → CodeTable → List Approx
approximate_in most s = approximate_by (length s.codes) (removed_in s) most

-- the minimal column sets that are unique where at most so many rows are removed, in report order
unfoldable pub near_keys_by : ℕ → (Columns → Target → ℕ) → ℕ → List NearKey
near_keys_by n count most = map (λ x. record { columns = x; removed = count x RowId }) (nearly_least n (λ x. count x RowId) most RowId)

abbrev pub near_keys : ℕ → RowState → List NearKey
near_keys most r = near_keys_by (width r) (removed r) most

abbrev pub near_keys_in : ℕ → CodeTable → List NearKey
near_keys_in most s = near_keys_by (length s.codes) (removed_in s) most

-- X -> t is minimal among what holds but for at most so many rows, as a fact, which no set beyond the width meets
pub record IsMinimalApprox (most : ℕ) (r : RowState) (x : Columns) (t : Target) (k : ℕ) : Type 0 where
  pub below : x < 2 ^ width r
  pub lacks : has_target x t ≡ false
  pub removed : IsRemoved r x t k
  pub few : k ≤ most
  pub smallest : (y : Columns) (j : ℕ) → IsSubset y x → IsRemoved r y t j → j ≤ most → y ≡ x
