-- Sets of any number of columns, in parts.
use Rattle.std.specs.Prelude.{ℕ, ◌/◌, ◌%◌, Bool, List, slice_index}
use Rattle.col_set.specs.ColSet.{Columns, has}
use Rattle.col_set.specs.declared.col_set.TheConstants.{COLUMN_PLACES}

-- whether a set has a column
unfoldable pub has_wide : List Columns → ℕ → Bool
has_wide parts k = has (slice_index parts (k / COLUMN_PLACES)) (k % COLUMN_PLACES)
