-- New lists of candidates, before they are put in place.
use Rattle.std.specs.Prelude.{◌≡◌, ◌<◌, ℕ, List, length, slice_index_or, Option, Some, None}
use Rattle.col_set.specs.declared.target.Target.{Target}
use Rattle.col_set.specs.declared.target.Target.TheVariants.{Col, RowId}
use Rattle.col_set.specs.ColSet.{Columns}
use Rattle.candidate_cover.specs.declared.cand.Cand.{Cand}
use Rattle.candidate_cover.specs.Lists.{CandLists}
use Rattle.candidate_cover.specs.Cands.{cands_of, width}
use Rattle.cover_steps.specs.Core.{renewed_list}
use Rattle.cover_steps.specs.declared.new_lists.NewLists.{NewLists}

-- the list that these agree sets leave for a target, or none where that is the list that there is
abbrev pub IsNewList : ℕ → List Columns → CandLists → Target → Option (List Cand) → Type 0
IsNewList n ws c t None = renewed_list n ws c t ≡ cands_of c t
IsNewList n ws c t (Some new_list) = new_list ≡ renewed_list n ws c t

-- the new lists of the row's identity and of the columns
pub record AreNewLists (n : ℕ) (ws : List Columns) (c : CandLists) (first : Option (List Cand)) (others : List (Option (List Cand))) : Type 0 where
  pub row_id : IsNewList n ws c RowId first
  pub count : length others ≡ n
  pub columns : (a : ℕ) → a < n → IsNewList n ws c (Col a) (slice_index_or others a None)

-- the new lists are what these agree sets leave of the candidates
abbrev pub IsLeftBy : CandLists → List Columns → NewLists → Type 0
IsLeftBy c ws new_lists = AreNewLists (width c) ws c new_lists.row_id new_lists.columns.items

-- it is the new list of the target at its place
pub record IsPlaced (n : ℕ) (ws : List Columns) (c : CandLists) (ts : List Target) (placed : ℕ × Option (List Cand)) : Type 0 where
  pub within : placed.0 < length ts
  pub is : (d : Target) → IsNewList n ws c (slice_index_or ts placed.0 d) placed.1
