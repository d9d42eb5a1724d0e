-- The text of `nary`.
use Rattle.std.specs.Prelude.{◌++◌, ◌+◌, ℕ, List, length}
use Rattle.std.specs.List.{flat_map, zip}
use Rattle.rel_base.specs.RowState.{RowState}
use Rattle.nary_ind.specs.declared.found.ListInd.{ListInd}
use Rattle.nary_ind.specs.ListInclusions.{list_inclusions}
use Rattle.report_text.specs.Inclusions.{list_inclusion_line}
use Rattle.report_text.specs.Report.{head_text}

-- the lines that name a relation, by its file, and its columns
abbrev pub head_of : List ℕ × RowState → List ℕ
head_of p = head_text p.0 p.1.names (length p.1.live)

-- those of each relation, under the file beside it
unfoldable pub heads_text : List (List ℕ) → List RowState → List ℕ
heads_text files states = flat_map head_of (zip files states)

-- an inclusion of lists: one of single columns is an `ind` line, as `profile` writes it
abbrev pub inclusion_line : ListInd → List ℕ
inclusion_line i = list_inclusion_line (i.dep_rel + 1) i.dep_cols (i.into_rel + 1) i.into_cols

-- the lines of the relations, and of all inclusions of lists of 1 up to so many of their columns
abbrev pub nary_text : ℕ → List (List ℕ) → List RowState → List ℕ
nary_text width files states = heads_text files states ++ flat_map inclusion_line (list_inclusions width states)
