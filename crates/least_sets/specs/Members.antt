-- Lists with the same members.
use Rattle.std.specs.Prelude.{List}
use Rattle.col_set.specs.ColSet.{Columns}
use Rattle.col_set.specs.Lists.{Listed}

-- the lists have the same members
pub record HasMembers (xs ys : List Columns) : Type 0 where
  pub each : (x : Columns) → Listed x ys → Listed x xs
  pub every : (x : Columns) → Listed x xs → Listed x ys
