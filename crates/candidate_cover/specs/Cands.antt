-- Candidates: left sides with their marks, in a list for each target.
use Rattle.std.specs.Prelude.{if◌then◌else◌, ◌≡◌, ℕ, ◌==◌, ◌&&◌, Bool, false, not, List, [], map, max, length, slice_index_or, slice_set, Option}
use Rattle.std.specs.List.{filter, find, list_any}
use Rattle.std.specs.Option.{unwrap_or, option_map}
use Rattle.std.specs.Ordering.{is_lt}
use Rattle.col_set.specs.declared.target.Target.{Target}
use Rattle.col_set.specs.declared.target.Target.TheVariants.{Col, RowId}
use Rattle.col_set.specs.ColSet.{Columns, report_cmp}
use Rattle.col_set.specs.Target.{IsColumnTarget}
use Rattle.col_set.specs.Evidence.{least}
use Rattle.col_set.specs.Lists.{Rises}
use Rattle.candidate_cover.specs.declared.cand.Cand.{Cand}
use Rattle.candidate_cover.specs.Lists.{CandLists}

-- how many columns there are
abbrev pub width : CandLists → ℕ
width c = length c.columns

-- the candidates of a target
abbrev pub cands_of : CandLists → Target → List Cand
cands_of c (Col a) = slice_index_or c.columns a []
cands_of c RowId = c.row_id

abbrev pub lefts : List Cand → List Columns
lefts cands = map (λ c. c.left) cands

-- for each target of n columns the candidates are what these agree sets leave
pub record AreLeast (n : ℕ) (ws : List Columns) (c : CandLists) : Type 0 where
  pub each : (t : Target) → IsColumnTarget n t → lefts (cands_of c t) ≡ least n ws t

-- the lists, with these candidates for the target
abbrev pub with_list : CandLists → Target → List Cand → CandLists
with_list c (Col a) cands = record { row_id = c.row_id; columns = slice_set c.columns a cands }
with_list c RowId cands = record { row_id = cands; columns = c.columns }

-- each left side stands before each later one in report order
abbrev pub IsInOrder : List Cand → Type 0
IsInOrder cands = Rises report_cmp (lefts cands)

-- the candidates whose left sides do not stand before x
abbrev pub from : Columns → List Cand → List Cand
from x cands = filter (λ c. not (is_lt (report_cmp c.left x))) cands

-- whether the column set is a left side of the list
abbrev pub is_listed : List Cand → Columns → Bool
is_listed cands x = list_any (λ c. c.left == x) cands

-- the row below which the candidate of x is known to hold, where there is one
abbrev pub upto_of : List Cand → Columns → Option ℕ
upto_of cands x = option_map (λ c. c.upto) (find (λ c. c.left == x) cands)

-- a candidate of which no row is known to keep it
abbrev pub fresh : Columns → Cand
fresh x = record { left = x; upto = 1; held = false }

-- whether no row is known to keep a candidate and nobody holds it
abbrev pub is_fresh : Cand → Bool
is_fresh c = (c.upto == 1) && not c.held

-- the first left side of such a candidate
abbrev pub first_fresh : List Cand → Option Columns
first_fresh cands = option_map (λ c. c.left) (find is_fresh cands)

-- the candidate that has this left side, with its marks, and a fresh one where there is none
abbrev pub kept_or_fresh : List Cand → Columns → Cand
kept_or_fresh cands x = unwrap_or (find (λ c. c.left == x) cands) (fresh x)

-- the candidate of x is marked up to a row at least, and no longer held
abbrev pub marked : List Cand → Columns → ℕ → List Cand
marked cands x to = map (λ c. if c.left == x then record { left = x; upto = max c.upto to; held = false } else c) cands

-- the candidate of x is held or not
abbrev pub holding : List Cand → Columns → Bool → List Cand
holding cands x held = map (λ c. if c.left == x then record { left = x; upto = c.upto; held = held } else c) cands

-- no candidate of the list is held any more
abbrev pub all_free : List Cand → List Cand
all_free cands = map (λ c. record { left = c.left; upto = c.upto; held = false }) cands

-- no candidate of any target is held any more
abbrev pub freed : CandLists → CandLists
freed c = record { row_id = all_free c.row_id; columns = map all_free c.columns }
