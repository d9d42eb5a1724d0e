-- What a column set determines in a row state, of the columns at hand.
use Rattle.std.specs.Prelude.{◌≡◌, ℕ, Bool, true}
use Rattle.std.specs.List.{filter, list_all}
use Rattle.col_set.specs.declared.target.Target.TheVariants.{Col}
use Rattle.col_set.specs.ColSet.{Columns, has, set_of, columns, upto}
use Rattle.rel_base.specs.RowState.{RowState, width}
use Rattle.rel_base.specs.Validity.{holds, Holds}

-- the columns that X determines
unfoldable pub determined_columns : RowState → Columns → Columns
determined_columns r x = set_of (filter (λ a. holds r x (Col a)) (upto (width r)))

-- whether X determines every column of S
unfoldable pub determines_all : RowState → Columns → Columns → Bool
determines_all r x s = list_all (λ a. holds r x (Col a)) (columns s)

-- the same as a fact
pub record Determines (r : RowState) (x s : Columns) : Type 0 where
  pub each : (a : ℕ) → has s a ≡ true → Holds r x (Col a)
