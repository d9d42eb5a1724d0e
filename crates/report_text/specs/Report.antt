-- The report of a relation, line by line. Columns are counted from 1.
use Rattle.std.specs.Prelude.{ℕ, ◌+◌, List, [], ◌∷◌, ◌++◌, length, codes, decimal}
use Rattle.std.specs.List.{enumerate_from, flat_map}
use Rattle.col_set.specs.ColSet.{Columns}
use Rattle.rel_base.specs.Cells.{Row}
use Rattle.rel_base.specs.Covers.{CoverLists}
use Rattle.rel_base.specs.declared.dependency.Fd.{Fd}
use Rattle.report_text.specs.Field.{columns_text}
use Rattle.report_text.specs.Line.{line}

-- the relation's name, its number of columns and its number of rows
abbrev pub relation_line : List ℕ → ℕ → ℕ → List ℕ
relation_line name columns rows = line (codes "relation" ∷ name ∷ decimal columns ∷ decimal rows ∷ [])

-- a column's number and its name
abbrev pub column_line : ℕ × List ℕ → List ℕ
column_line column = line (codes "column" ∷ decimal column.0 ∷ column.1 ∷ [])

abbrev pub key_line : Columns → List ℕ
key_line key = line (codes "key" ∷ columns_text key ∷ [])

abbrev pub fd_line : Fd → List ℕ
fd_line fd = line (codes "fd" ∷ columns_text fd.left ∷ decimal (fd.right + 1) ∷ [])

-- a dependency that holds but for so many rows
abbrev pub approx_line : Fd → ℕ → List ℕ
approx_line fd removed = line (codes "afd" ∷ columns_text fd.left ∷ decimal (fd.right + 1) ∷ decimal removed ∷ [])

-- a line for the relation and one for each column
unfoldable pub head_text : List ℕ → Row → ℕ → List ℕ
head_text name names rows = relation_line name (length names) rows ++ flat_map column_line (enumerate_from 1 names)

-- a line for the relation, one for each column, one for each key and one for each dependency
unfoldable pub report_text : List ℕ → Row → ℕ → CoverLists → List ℕ
report_text name names rows covers =
    relation_line name (length names) rows
    ++ flat_map column_line (enumerate_from 1 names)
    ++ flat_map key_line covers.keys
    ++ flat_map fd_line covers.fds
