-- What a job is seen as.
use Rattle.std.specs.Prelude.{ℕ}
use Rattle.col_set.specs.ColSet.{Columns}
use Rattle.col_set.specs.declared.target.Target.{Target}
use Rattle.rel_base.specs.CodeTable.{CodeTable}

-- whether left determines the target in the snapshot, where it does so among the rows below from
pub record JobParts : Type 0 where
  pub target : Target
  pub left : Columns
  pub from : ℕ
  pub to : ℕ
  pub snapshot : CodeTable
