-- Inclusions between columns. Relations are numbered from 1, and so are the columns of each.
use Rattle.std.specs.Prelude.{ℕ, List, [], ◌∷◌, map, codes, slice_index_or}
use Rattle.std.specs.List.{enumerate_from, flat_map, range_with_len}
use Rattle.report_text.specs.Field.{column_mark, marks_text}
use Rattle.report_text.specs.Line.{line}

abbrev pub relation_marks : ℕ × ℕ → List (List ℕ)
relation_marks relation = map (column_mark relation.0) (range_with_len 1 relation.1)

-- the columns of all relations, one relation after another
unfoldable pub column_marks : List ℕ → List (List ℕ)
column_marks widths = flat_map relation_marks (enumerate_from 1 widths)

-- the column at a position among the columns of all relations, counted from 0
abbrev pub mark_at : List ℕ → ℕ → List ℕ
mark_at widths position = slice_index_or (column_marks widths) position []

-- the dependent column, and the column whose values have all of its values
abbrev pub inclusion_line : List ℕ → ℕ × ℕ → List ℕ
inclusion_line widths pair = line (codes "ind" ∷ mark_at widths pair.0 ∷ mark_at widths pair.1 ∷ [])

unfoldable pub inclusions_text : List ℕ → List (ℕ × ℕ) → List ℕ
inclusions_text widths pairs = flat_map (inclusion_line widths) pairs

-- ---- inclusions of lists
-- lists of one column are columns
abbrev pub inclusion_word : List ℕ → List ℕ
inclusion_word [] = codes "nind"
inclusion_word (c ∷ []) = codes "ind"
inclusion_word (c ∷ d ∷ cs) = codes "nind"

-- columns of one relation, and those of a relation that they are included in; the relations are numbered from 1, the columns are counted from 0
abbrev pub list_inclusion_line : ℕ → List ℕ → ℕ → List ℕ → List ℕ
list_inclusion_line dep_rel dep_cols into_rel into_cols = line (inclusion_word dep_cols ∷ marks_text dep_rel dep_cols ∷ marks_text into_rel into_cols ∷ [])
