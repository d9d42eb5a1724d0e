-- What a dependency determines, and how column sets speak of it. The target is a column, or which row it is.
use Rattle.std.specs.Prelude.{◌<◌, ℕ, ◌==◌, Bool, false}
use Rattle.col_set.specs.declared.target.Target.{Target}
use Rattle.col_set.specs.declared.target.Target.TheVariants.{Col, RowId}
use Rattle.col_set.specs.ColSet.{Columns, has}

-- whether the set has the target: a column that it has. No set has the row's identity.
unfoldable pub has_target : Columns → Target → Bool
has_target x (Col a) = has x a
has_target x RowId = false

-- the target is the row's identity or one of the first n columns
abbrev pub IsColumnTarget : ℕ → Target → Type 0
IsColumnTarget n (Col a) = a < n
IsColumnTarget n RowId = Unit {0}

-- whether the target is this column
unfoldable pub is_target : ℕ → Target → Bool
is_target k (Col a) = k == a
is_target k RowId = false
