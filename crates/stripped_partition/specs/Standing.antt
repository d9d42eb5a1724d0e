-- What a path is seen as: a snapshot, and the columns by which it has the groups.
use Rattle.col_set.specs.ColSet.{Columns}
use Rattle.rel_base.specs.CodeTable.{CodeTable}

pub record Standing : Type 0 where
  pub table : CodeTable
  pub columns : Columns
