-- A row state: all that a relation is under batches.
use Rattle.std.specs.Prelude.{◌≡◌, ◌<◌, ◌≤◌, ◌+◌, ◌-◌, ℕ, List, [], length, slice_index_or}
use Rattle.std.specs.List.{All, range_with_len}
use Rattle.std.specs.List.Sorted.{IsStrictlyIncreasing}
use Rattle.col_set.specs.declared.col_set.TheConstants.{MOST_COLUMNS}
use Rattle.rel_base.specs.declared.limits.TheConstants.{MOST_ROWS}
use Rattle.rel_base.specs.declared.nulls.Nulls.{Nulls}
use Rattle.rel_base.specs.Cells.{Row}
use Rattle.rel_base.specs.Relation.{Content}

-- The names of the columns, how NULL is read, the greatest number that an insert may give, all rows ever given, of which
-- the first has number 1, and the numbers of the live ones, ascending.
pub record RowState : Type 0 where
  pub names : Row
  pub nulls : Nulls
  pub limit : ℕ
  pub given : List Row
  pub live : List ℕ

-- how many columns there are
abbrev pub width : RowState → ℕ
width r = length r.names

-- the number that the next row gets
abbrev pub next : RowState → ℕ
next r = length r.given + 1

-- the row with a number
abbrev pub row : RowState → ℕ → Row
row r number = slice_index_or r.given (number - 1) []

-- a row state has columns and rows as wide, no more of either than a relation may have, and live numbers among those given
pub record IsRowState (r : RowState) : Type 0 where
  pub some : 0 < width r
  pub narrow : width r ≤ MOST_COLUMNS
  pub widths : All (λ row. length row ≡ width r) r.given
  pub short : length r.given ≤ MOST_ROWS
  pub few : r.limit ≤ MOST_ROWS
  pub ascending : IsStrictlyIncreasing r.live
  pub positive : All (λ number. 0 < number) r.live
  pub numbered : All (λ number. number < next r) r.live

-- a relation as it was read: each row live, with the number of its place from 1
abbrev pub opened : Nulls → ℕ → Content → RowState
opened nulls limit c = record { names = c.names; nulls = nulls; limit = limit; given = c.rows; live = range_with_len 1 (length c.rows) }
