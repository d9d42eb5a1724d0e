-- Reports and inclusions, from the definitions of row states.
use Rattle.std.specs.Prelude.{◌++◌, ℕ, List, length, map}
use Rattle.std.specs.List.{flat_map, zip}
use Rattle.rel_base.specs.RowState.{RowState, width}
use Rattle.rel_base.specs.Covers.{covers}
use Rattle.rel_base.specs.Inclusion.{all_columns, inclusions}
use Rattle.report_text.specs.Inclusions.{inclusions_text}
use Rattle.report_text.specs.Report.{report_text}

-- the report of a row state, under the name of its file
unfoldable pub report_of : List ℕ → RowState → List ℕ
report_of name r = report_text name r.names (length r.live) (covers r)

-- the inclusions among the columns of all these row states, which are numbered from 1
unfoldable pub inclusion_lines : List RowState → List ℕ
inclusion_lines states = inclusions_text (map width states) (inclusions (all_columns states))

-- the report of each row state under the name beside it, and then the inclusions among the columns of all of them
unfoldable pub reports : List (List ℕ) → List RowState → List ℕ
reports names states = flat_map (λ p. report_of p.0 p.1) (zip names states) ++ inclusion_lines states
