-- Cells and rows.
use Rattle.std.specs.Prelude.{ℕ, List, [], slice_index_or}

-- a cell is its bytes, and the empty cell is NULL
abbrev pub Cell : Type 0
Cell = List ℕ

-- a row is its cells
abbrev pub Row : Type 0
Row = List Cell

-- the cell of a row in a column, counted from 0
abbrev pub cell : Row → ℕ → Cell
cell row k = slice_index_or row k []
