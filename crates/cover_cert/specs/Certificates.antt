-- When a text is a certificate of the covers of some rows, and its first flaw where it is none.
use Rattle.std.specs.Prelude.{◌+◌, ◌&&◌, if◌then◌else◌, not, nat_le, nat_lt, nat_eq, ℕ, Bool, List, length, map, Option, Some, None}
use Rattle.std.specs.List.{list_any, list_all}
use Rattle.col_set.specs.declared.target.Target.{Target}
use Rattle.col_set.specs.ColSet.{Columns}
use Rattle.rel_base.specs.CodeTable.{CodeTable, live_at}
use Rattle.rel_base.specs.RowState.{RowState, width}
use Rattle.rel_base.specs.Validity.{agree_of, holds}
use Rattle.rel_base.specs.Shows.{code_agree, live_numbers, holds_in}
use Rattle.rel_base.specs.Covers.{least_covers}
use Rattle.cover_cert.specs.declared.line.Shape.{Shape}
use Rattle.cover_cert.specs.declared.line.RowPair.{RowPair}
use Rattle.cover_cert.specs.declared.line.Claim.{Claim}
use Rattle.cover_cert.specs.declared.part.Part.TheVariants as part
use Rattle.cover_cert.specs.declared.answer.Answer.{Answer}
use Rattle.cover_cert.specs.declared.answer.Answer.TheVariants.{Yes, No}
use Rattle.cover_cert.specs.declared.answer.Flaw.{Flaw}
use Rattle.cover_cert.specs.declared.answer.Flaw.TheVariants as flaw
use Rattle.cover_cert.specs.Form.{Said, said, form_flaw, shapes_in, pairs_in, claims_in, same_shape}
use Rattle.cover_cert.specs.Comparing.{claims_of, departs_at, first_where}

-- ---- what a certificate is held against
-- How many columns and rows there are, whether a row has a number, on which columns two rows agree, and what determines what.
pub record Rows : Type 0 where
  pub columns : ℕ
  pub count : ℕ
  pub is_live : ℕ → Bool
  pub agree : ℕ → ℕ → Columns
  pub holds : Columns → Target → Bool

-- the live rows of a row state, by their cells
abbrev pub rows_of : RowState → Rows
rows_of r = record { columns = width r; count = length r.live; is_live = λ i. list_any (nat_eq i) r.live; agree = agree_of r; holds = holds r }

-- those of a snapshot, by their codes
abbrev pub rows_in : CodeTable → Rows
rows_in s = record { columns = length s.codes; count = length (live_numbers s); is_live = live_at s; agree = code_agree s; holds = holds_in s }

-- ---- the flaws
abbrev pub shape_of : Rows → Shape
shape_of rows = record { columns = rows.columns; rows = rows.count }

abbrev pub shape_flaw : Rows → Said → Option ℕ
shape_flaw rows text = if list_all (same_shape (shape_of rows)) (shapes_in text) then None else Some 1

-- two rows by their numbers, the lesser first: in a relation as it was read these are numbers from 1 to that of its rows
abbrev pub names_rows : Rows → RowPair → Bool
names_rows rows pair = nat_le 1 pair.first && nat_lt pair.first pair.second && rows.is_live pair.first && rows.is_live pair.second

abbrev pub pair_flaw : Rows → Said → Option ℕ
pair_flaw rows text = first_where (λ pair. not (names_rows rows pair)) 2 (pairs_in text)

-- the agree sets of the pairs
abbrev pub agree_sets_of : Rows → List RowPair → List Columns
agree_sets_of rows pairs = map (λ pair. rows.agree pair.first pair.second) pairs

-- the number of the first record behind the pairs
abbrev pub first_claim : Said → ℕ
first_claim text = 2 + length (pairs_in text)

-- what the agree sets leave as one sequence, and the first line that departs from it, or `end` where lines are missing
abbrev pub least_flaw : Rows → Said → Option ℕ
least_flaw rows text = departs_at (first_claim text) (claims_of (least_covers rows.columns (agree_sets_of rows (pairs_in text)))) (claims_in text)

abbrev pub fails : Rows → Claim → Bool
fails rows claim = not (rows.holds claim.left claim.target)

abbrev pub fails_flaw : Rows → Said → Option ℕ
fails_flaw rows text = first_where (fails rows) (first_claim text) (claims_in text)

-- ---- the answer
-- no at a record for a flaw, or else what comes next
abbrev pub no_or : Flaw → Option ℕ → Answer → Answer
no_or why None next = next
no_or why (Some number) next = No number why

-- what comes of a text in form
abbrev pub judged : Rows → Said → Answer
judged rows text = no_or flaw.Shape (shape_flaw rows text) (no_or flaw.Pair (pair_flaw rows text) (no_or flaw.Least (least_flaw rows text) (no_or flaw.Fails (fails_flaw rows text) Yes)))

-- the first flaw of a text, each asked of the whole text before the next, or yes
unfoldable pub answer_by : Rows → Said → Answer
answer_by rows text = no_or flaw.Form (form_flaw part.Start 1 text) (judged rows text)

-- of the bytes of a text, against a row state, and against a snapshot
abbrev pub answer : RowState → List ℕ → Answer
answer r bytes = answer_by (rows_of r) (said bytes)

abbrev pub answer_in : CodeTable → List ℕ → Answer
answer_in s bytes = answer_by (rows_in s) (said bytes)
