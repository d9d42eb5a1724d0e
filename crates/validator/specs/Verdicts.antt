-- What a verdict on a job says.
use Rattle.std.specs.Prelude.{◌≡◌, ◌<◌, ◌^◌, ℕ, nat_le, true, false, List, [], length}
use Rattle.std.specs.List.{count_by, Contains, All, AllPairs}
use Rattle.col_set.specs.declared.target.Target.{Target}
use Rattle.col_set.specs.ColSet.{Columns, IsSubset}
use Rattle.col_set.specs.Target.{has_target, IsColumnTarget}
use Rattle.rel_base.specs.CodeTable.{CodeTable}
use Rattle.rel_base.specs.JobParts.{JobParts}
use Rattle.rel_base.specs.Shows.{code_agree, live_numbers, holds_in, holds_in_below}
use Rattle.validator.specs.declared.verdict.Verdict.{Verdict}
use Rattle.validator.specs.declared.verdict.Verdict.TheVariants.{Holds, Broken}

-- two live rows, the smaller number first, that agree on x and differ on t
pub record IsViolation (s : CodeTable) (x : Columns) (t : Target) (i j : ℕ) : Type 0 where
  pub first : Contains (live_numbers s) i
  pub second : Contains (live_numbers s) j
  pub rising : i < j
  pub left : IsSubset x (code_agree s i j)
  pub target : has_target (code_agree s i j) t ≡ false

-- no two of these pairs come from rows that all agree on x
abbrev pub AreApart : CodeTable → Columns → List (ℕ × ℕ) → Type 0
AreApart s x pairs = AllPairs (λ p q. ¬ IsSubset x (code_agree s p.0 q.0)) pairs

-- each pair shows that x does not determine t, from rows of its own that agree on x, and there is none only where it does
pub record AreFound (s : CodeTable) (x : Columns) (t : Target) (found : List (ℕ × ℕ)) : Type 0 where
  pub each : All (λ pair. IsViolation s x t pair.0 pair.1) found
  pub apart : AreApart s x found
  pub none : found ≡ [] → holds_in s x t ≡ true

-- the job's left side and target are columns of its snapshot, and the dependency holds among the rows below its `from`
pub record IsFitting (job : JobParts) : Type 0 where
  pub left : job.left < 2 ^ length job.snapshot.codes
  pub target : IsColumnTarget (length job.snapshot.codes) job.target
  pub below : holds_in_below job.from job.snapshot job.left job.target ≡ true

-- what the verdict says of the job is so
abbrev pub IsVerdict : JobParts → Verdict → Type 0
IsVerdict job (Holds to) = (to ≡ job.to) × (holds_in job.snapshot job.left job.target ≡ true)
IsVerdict job (Broken i j) = IsViolation job.snapshot job.left job.target i j

-- how many live rows have a number from `from` on
abbrev pub new_rows : CodeTable → ℕ → ℕ
new_rows s from = count_by (λ i. nat_le from i) (live_numbers s)
