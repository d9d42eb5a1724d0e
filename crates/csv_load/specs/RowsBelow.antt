-- Rows that are read apart from the header that they stand below.
use Rattle.std.specs.Prelude.{◌≡◌, ◌<◌, List, [], length}
use Rattle.rel_base.specs.declared.limits.Limits.{Limits}
use Rattle.rel_base.specs.Cells.{Row}
use Rattle.rel_base.specs.Relation.{Content}
use Rattle.csv_load.specs.Refusal.{IsWithin}

-- a header that no rule refuses
pub record IsHeader (limits : Limits) (names : Row) : Type 0 where
  pub some : 0 < length names
  pub within : IsWithin limits (record { names = names; rows = [] })

-- a relation has these names and these rows, and is within the limits
pub record HasRows (limits : Limits) (names : Row) (rows : List Row) (relation : Content) : Type 0 where
  pub names_are : relation.names ≡ names
  pub rows_are : relation.rows ≡ rows
  pub within : IsWithin limits relation
