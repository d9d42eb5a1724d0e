-- How the rows of a code are linked, and the row that a later one is compared with.
use Rattle.std.specs.Prelude.{◌≡◌, ◌≢◌, ◌<◌, ◌≤◌, ◌-◌, ℕ, true, false, List, [], length, Option, Some, None, slice_index}
use Rattle.std.specs.List.{All}
use Rattle.col_set.specs.declared.target.Target.{Target}
use Rattle.col_set.specs.ColSet.{Columns}
use Rattle.col_set.specs.Lists.{Listed}
use Rattle.col_set.specs.Target.{has_target}
use Rattle.rel_base.specs.CodeTable.{CodeTable}
use Rattle.rel_base.specs.Shows.{code_agree, live_numbers}
use Rattle.stripped_partition.specs.Stripped.{agree_on}
use Rattle.validator.specs.Verdicts.{IsViolation}
use Rattle.validator.specs.declared.chain.Chain.{Chain}

-- r is the number of the last of the first n rows that has the code, or 0 where none has it
pub record IsLatest (codes : List ℕ) (n code r : ℕ) : Type 0 where
  pub within : r ≤ n
  pub has : 0 < r → slice_index codes (r - 1) ≡ code
  pub none : (k : ℕ) → r ≤ k → k < n → slice_index codes k ≢ code

-- the first rows of a column with these codes are linked
pub record IsChain (codes : List ℕ) (chain : Chain) : Type 0 where
  pub short : length chain.before.items ≤ length codes
  pub linked : (k : ℕ) → k < length chain.before.items → IsLatest codes k (slice_index codes k) (slice_index chain.before.items k)
  pub latest : (code : ℕ) → IsLatest codes (length chain.before.items) code (slice_index chain.last.items code)

-- p is the last live row before j that agrees with it on x
pub record IsLastAlike (s : CodeTable) (x : Columns) (j p : ℕ) : Type 0 where
  pub live : Listed p (live_numbers s)
  pub before : p < j
  pub agrees : agree_on s x p j ≡ true
  pub last : (i : ℕ) → Listed i (live_numbers s) → i < j → agree_on s x i j ≡ true → i ≤ p

-- that row, if there is one
abbrev pub IsPartner : CodeTable → Columns → ℕ → Option ℕ → Type 0
IsPartner s x j None = (i : ℕ) → Listed i (live_numbers s) → i < j → ¬ (agree_on s x i j ≡ true)
IsPartner s x j (Some p) = IsLastAlike s x j p

-- a live row from i on, before j, that agrees with j on x and on the target
pub record IsBridge (s : CodeTable) (x : Columns) (t : Target) (i j : ℕ) : Type 0 where
  pub row : ℕ
  pub live : Listed row (live_numbers s)
  pub from : i ≤ row
  pub before : row < j
  pub agrees : agree_on s x row j ≡ true
  pub target : has_target (code_agree s row j) t ≡ true

-- each live row before j that agrees with it on x is at or before one that does and agrees with it on the target too
pub record IsBridged (s : CodeTable) (x : Columns) (t : Target) (j : ℕ) : Type 0 where
  pub each : (i : ℕ) → Listed i (live_numbers s) → i < j → agree_on s x i j ≡ true → IsBridge s x t i j

-- what is told of a row j, where these pairs are known: a pair of a further group, or where there is none that the row is bridged
abbrev pub IsTold : CodeTable → Columns → Target → List (ℕ × ℕ) → ℕ → Option (ℕ × ℕ) → Type 0
IsTold s x t pairs j None = pairs ≡ [] → IsBridged s x t j
IsTold s x t pairs j (Some pair) = IsViolation s x t pair.0 pair.1 × All (λ p. agree_on s x p.0 pair.0 ≡ false) pairs
