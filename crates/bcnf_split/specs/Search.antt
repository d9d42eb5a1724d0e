-- The search for the first violation: one found so far, and what parts a table.
use Rattle.std.specs.Prelude.{◌≡◌, ◌<◌, ◌⊎◌, true, Option, Some, None}
use Rattle.std.specs.declared.cmp.Ordering.TheVariants.{Less}
use Rattle.col_set.specs.ColSet.{Columns, union, minus, report_cmp}
use Rattle.rel_base.specs.RowState.{RowState}
use Rattle.bcnf_split.specs.declared.parted.Parting.{Parting}
use Rattle.bcnf_split.specs.Bcnf.{violates}
use Rattle.bcnf_split.specs.Split.{dependents}

-- both parts are smaller than the table
pub record IsParting (s : Columns) (p : Parting) : Type 0 where
  pub rest : minus s p.dependents < s
  pub moved : union p.left p.dependents < s

-- it is a violation of the table in the rows, with all that it determines there
pub record IsViolation (r : RowState) (s : Columns) (p : Parting) : Type 0 where
  pub violating : violates r s p.left ≡ true
  pub all : p.dependents ≡ dependents r s p.left

-- what was found is X, or stands before it
abbrev pub IsFoundBy : Columns → Option Parting → Type 0
IsFoundBy x None = ⊥
IsFoundBy x (Some p) = (p.left ≡ x) ⊎ (report_cmp p.left x ≡ Less)

-- the same of a column set that was found
abbrev pub IsFoundAs : Columns → Option Columns → Type 0
IsFoundAs x None = ⊥
IsFoundAs x (Some y) = (y ≡ x) ⊎ (report_cmp y x ≡ Less)
