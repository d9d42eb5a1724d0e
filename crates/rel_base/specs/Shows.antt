-- A snapshot shows a row state.
use Rattle.std.specs.Prelude.{◌≡◌, ◌≢◌, ◌<◌, ℕ, ◌-◌, ◌↔◌, ◌==◌, Bool, true, List, length, map, nat_lt}
use Rattle.std.specs.List.{filter, range_with_len, Contains}
use Rattle.col_set.specs.declared.target.Target.{Target}
use Rattle.col_set.specs.ColSet.{Columns, IsSubset, has, set_of, upto}
use Rattle.col_set.specs.Target.{has_target}
use Rattle.rel_base.specs.CodeTable.{CodeTable, code_at, live_at}
use Rattle.rel_base.specs.RowState.{RowState, width, next}
use Rattle.rel_base.specs.Validity.{agree_of, determined, pairs}

-- its width, next number and live numbers are the row state's, and two different live rows have equal codes in a column exactly where they agree there
pub record Shows (s : CodeTable) (r : RowState) : Type 0 where
  pub columns : length s.codes ≡ width r
  pub next : s.to ≡ next r
  pub live : (number : ℕ) → 0 < number → (live_at s number ≡ true) ↔ Contains r.live number
  pub codes : (i j k : ℕ) → Contains r.live i → Contains r.live j → i ≢ j → k < width r → (code_at s i k ≡ code_at s j k) ↔ (has (agree_of r i j) k ≡ true)

-- the columns in which two rows have equal codes
unfoldable pub code_agree : CodeTable → ℕ → ℕ → Columns
code_agree s i j = set_of (filter (λ k. code_at s i k == code_at s j k) (upto (length s.codes)))

-- the numbers of its live rows, ascending
unfoldable pub live_numbers : CodeTable → List ℕ
live_numbers s = filter (live_at s) (range_with_len 1 (s.to - 1))

-- the agree sets of every two of these rows, by their codes
abbrev pub code_sets : CodeTable → List ℕ → List Columns
code_sets s numbers = map (λ p. code_agree s p.0 p.1) (pairs numbers)

-- the agree sets of every two different live rows, by their codes
unfoldable pub code_agree_sets : CodeTable → List Columns
code_agree_sets s = code_sets s (live_numbers s)

-- X determines t in the snapshot
unfoldable pub holds_in : CodeTable → Columns → Target → Bool
holds_in s x t = determined (code_agree_sets s) x t

-- the same as a fact
pub record HoldsIn (s : CodeTable) (x : Columns) (t : Target) : Type 0 where
  pub each : (i j : ℕ) → Contains (live_numbers s) i → Contains (live_numbers s) j → i ≢ j → IsSubset x (code_agree s i j)
      → has_target (code_agree s i j) t ≡ true

-- X determines t in the snapshot among the rows with a number below b
unfoldable pub holds_in_below : ℕ → CodeTable → Columns → Target → Bool
holds_in_below b s x t = determined (code_sets s (filter (λ i. nat_lt i b) (live_numbers s))) x t

-- the same as a fact
pub record HoldsInBelow (b : ℕ) (s : CodeTable) (x : Columns) (t : Target) : Type 0 where
  pub each : (i j : ℕ) → Contains (live_numbers s) i → Contains (live_numbers s) j → i < b → j < b → i ≢ j → IsSubset x (code_agree s i j)
      → has_target (code_agree s i j) t ≡ true
