-- What references between tables say of the rows.
use Rattle.std.specs.Prelude.{◌≡◌, ◌≢◌, ℕ, List}
use Rattle.std.specs.List.{Contains, enumerate_from}
use Rattle.col_set.specs.ColSet.{Columns, IsSubset, empty}
use Rattle.rel_base.specs.declared.dependency.Table.{Table}
use Rattle.rel_base.specs.Cells.{Row}
use Rattle.rel_base.specs.RowState.{RowState}
use Rattle.rel_base.specs.Projection.{projection}
use Rattle.lossless_join.specs.Joining.{part_within}
use Rattle.synth_3nf.specs.declared.reference.Reference.{Reference}
use Rattle.synth_3nf.specs.References.{references}

-- the table with a number, from 1
pub record IsTable (tables : List Table) (number : ℕ) (t : Table) : Type 0 where
  pub listed : Contains (enumerate_from 1 tables) (number, t)

-- each key lies in the table whose number stands beside it
pub record IsKeyInside (tables : List Table) (key : ℕ × Columns) : Type 0 where
  pub table : Table
  pub own : IsTable tables key.0 table
  pub inside : IsSubset key.1 table.columns

abbrev pub AreKeysInside : List Table → List (ℕ × Columns) → Type 0
AreKeysInside tables keys = (key : ℕ × Columns) → Contains keys key → IsKeyInside tables key

-- Some row of the table to which it refers has the same part on its columns as a row of the table that refers.
pub record HasMatch (r : RowState) (f : Reference) (from to : Table) (p : Row) : Type 0 where
  pub match : Row
  pub listed : Contains (projection r to.columns) match
  pub same : part_within from.columns f.columns p ≡ part_within to.columns f.columns match

-- A reference is between two tables, by columns of both, at least one, and each row of the one has its part among the parts of the other.
pub record IsHeldReference (r : RowState) (tables : List Table) (f : Reference) : Type 0 where
  pub from : Table
  pub to : Table
  pub first : IsTable tables f.from from
  pub second : IsTable tables f.to to
  pub apart : f.to ≢ f.from
  pub some : f.columns ≢ empty
  pub own : IsSubset f.columns from.columns
  pub others : IsSubset f.columns to.columns
  pub among : (p : Row) → Contains (projection r from.columns) p → HasMatch r f from to p

abbrev pub ReferencesHold : RowState → List Table → List (ℕ × Columns) → Type 0
ReferencesHold r tables keys = AreKeysInside tables keys → (f : Reference) → Contains (references tables keys) f → IsHeldReference r tables f
