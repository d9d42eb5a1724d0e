-- What sweeps over the left sides of all columns find.
use Rattle.std.specs.Prelude.{ℕ}
use Rattle.std.specs.List.{All}
use Rattle.col_set.specs.declared.target.Target.TheVariants.{Col}
use Rattle.rel_base.specs.CodeTable.{CodeTable}
use Rattle.approx_fd.specs.declared.found.Approx.{Approx}
use Rattle.approx_fd.specs.declared.seen.Failure.{Failure}
use Rattle.approx_fd.specs.declared.sweeps.Findings.{Findings}
use Rattle.approx_fd.specs.Search.{IsFailing, IsCounted}

-- a set that fails for its column
abbrev pub IsFailure : CodeTable → ℕ → Failure → Type 0
IsFailure s most f = IsFailing s most (Col f.column) f.set

-- a dependency for which so many rows are to be removed, which is not too many
abbrev pub IsCount : CodeTable → ℕ → Approx → Type 0
IsCount s most a = IsCounted s most (Col a.fd.right) (record { columns = a.fd.left; removed = a.removed })

-- all that is found is so
pub record AreFindings (s : CodeTable) (most : ℕ) (found : Findings) : Type 0 where
  pub failures : All (IsFailure s most) found.failures.items
  pub counts : All (IsCount s most) found.counts.items
