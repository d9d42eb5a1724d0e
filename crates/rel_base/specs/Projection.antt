-- Projections: the distinct parts of rows on some columns.
use Rattle.std.specs.Prelude.{Bool, not, List, [], ◌∷◌, map}
use Rattle.std.specs.List.{filter}
use Rattle.std.specs.Cmp.Lexicographic.{pointwise}
use Rattle.col_set.specs.ColSet.{Columns, all, columns}
use Rattle.rel_base.specs.Cells.{Row, cell}
use Rattle.rel_base.specs.Agreement.{same_cell}
use Rattle.rel_base.specs.RowState.{RowState, width, row}

-- the cells of a row in these columns, ascending
unfoldable pub part : Columns → Row → Row
part s row = map (cell row) (columns s)

-- whether two rows have the same cells
abbrev pub same_row : Row → Row → Bool
same_row = pointwise same_cell

-- each row once, first seen first
unfoldable pub distinct : List Row → List Row
distinct [] = []
distinct (row ∷ rows) = row ∷ filter (λ other. not (same_row row other)) (distinct rows)

-- the distinct parts of these rows
unfoldable pub projected : Columns → List Row → List Row
projected s rows = distinct (map (part s) rows)

-- the distinct parts of the live rows, by ascending number
unfoldable pub projection : RowState → Columns → List Row
projection r s = projected s (map (row r) r.live)

-- the distinct rows
abbrev pub distinct_rows : RowState → List Row
distinct_rows r = projection r (all (width r))
