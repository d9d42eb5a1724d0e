-- A join of rows with a table, row by row. Rows are as wide as the relation, and have NULL in the columns that are not joined yet.
use Rattle.std.specs.Prelude.{if◌then◌else◌, ℕ, List, [], map, length, slice_index_or}
use Rattle.std.specs.List.{filter, flat_map}
use Rattle.col_set.specs.ColSet.{Columns, has, inter, columns, upto}
use Rattle.rel_base.specs.Cells.{Cell, Row, cell}
use Rattle.rel_base.specs.Projection.{part, same_row, distinct}
use Rattle.lossless_join.specs.NaturalJoin.{TableRows}
use Rattle.lossless_join.specs.Parts.{part_cell}

-- the part on the columns c of a part on the columns s
unfoldable pub part_within : Columns → Columns → Row → Row
part_within s c p = map (part_cell s p) (columns c)

-- a cell of a row with the cells of a part on s in the columns of s
abbrev pub merged_cell : Columns → Row → Row → ℕ → Cell
merged_cell s a p k = if has s k then part_cell s p k else cell a k

-- that row, of n columns
unfoldable pub merged : ℕ → Columns → Row → Row → Row
merged n s a p = map (merged_cell s a p) (upto n)

-- the row of a table at a place
abbrev pub row_at : TableRows → ℕ → Row
row_at t k = slice_index_or t.rows k []

-- the places of the table's rows whose part on the columns c is this one
abbrev pub places_of : TableRows → Columns → Row → List ℕ
places_of t c q = filter (λ k. same_row (part_within t.columns c (row_at t k)) q) (upto (length t.rows))

-- a row with the table's row at a place
abbrev pub merged_at : ℕ → TableRows → Row → ℕ → Row
merged_at n t a k = merged n t.columns a (row_at t k)

-- a row with each row of the table that agrees with it on the columns c
unfoldable pub matches : ℕ → Columns → TableRows → Row → List Row
matches n c t a = map (merged_at n t a) (places_of t c (part c a))

-- all such rows, each once
unfoldable pub joined_with : ℕ → Columns → TableRows → List Row → List Row
joined_with n done t rows = distinct (flat_map (matches n (inter done t.columns) t) rows)
