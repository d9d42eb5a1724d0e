-- A dependency inside a table, among the rows of the table.
use Rattle.std.specs.Prelude.{◌≡◌, ◌==◌, ◌↔◌, ℕ, true, List}
use Rattle.std.specs.List.{Contains, position_or_len}
use Rattle.col_set.specs.declared.target.Target.TheVariants.{Col}
use Rattle.col_set.specs.ColSet.{Columns, IsSubset, has, columns}
use Rattle.rel_base.specs.declared.nulls.Nulls.TheVariants.{Equal}
use Rattle.rel_base.specs.Cells.{Cell, Row, cell}
use Rattle.rel_base.specs.RowState.{RowState}
use Rattle.rel_base.specs.Validity.{Holds}
use Rattle.rel_base.specs.Projection.{projection}

-- the cell that a row of a table with the columns S has in a column of S: its cells are by ascending column
abbrev pub cell_of : Columns → Row → ℕ → Cell
cell_of s part k = cell part (position_or_len (λ c. c == k) (columns s))

-- X determines a among these rows of a table with the columns S: any two that agree on all of X agree on a
pub record HoldsAmong (s : Columns) (parts : List Row) (x : Columns) (a : ℕ) : Type 0 where
  pub each : (p q : Row) → Contains parts p → Contains parts q → ((k : ℕ) → has x k ≡ true → cell_of s p k ≡ cell_of s q k) → cell_of s p a ≡ cell_of s q a

-- Where NULL equals NULL, a dependency inside S holds in the rows exactly where it holds in the projection to S.
abbrev pub HoldsInsideTables : RowState → Columns → Type 0
HoldsInsideTables r s = (x : Columns) (a : ℕ) → r.nulls ≡ Equal → IsSubset x s → has s a ≡ true → Holds r x (Col a) ↔ HoldsAmong s (projection r s) x a
