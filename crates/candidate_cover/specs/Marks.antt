-- Candidates as pairs of a left side and its marks, and how a target's list is made anew.
use Rattle.std.specs.Prelude.{◌≡◌, ℕ, false, List, ◌++◌, map}
use Rattle.std.specs.List.{filter, list_any}
use Rattle.col_set.specs.declared.target.Target.{Target}
use Rattle.col_set.specs.ColSet.{Columns, subset, report_cmp}
use Rattle.col_set.specs.Lists.{Rises}
use Rattle.least_sets.specs.Members.{HasMembers}
use Rattle.candidate_cover.specs.declared.cand.Cand.{Cand}
use Rattle.candidate_cover.specs.declared.cand.Mark.{Mark}
use Rattle.least_sets.specs.Growth.{choices, inside, outside, near, grown}
use Rattle.candidate_cover.specs.Pairs.{keys, IsInOrder, toggled}

-- the candidate of a left side and its marks
abbrev pub cand : Columns × Mark → Cand
cand p = record { left = p.0; upto = p.1.upto; held = p.1.held }

abbrev pub cands : List (Columns × Mark) → List Cand
cands ps = map cand ps

abbrev pub fresh_mark : Mark
fresh_mark = record { upto = 1; held = false }

-- The new list is the old one where the left sides inside z have gone and the sets that grow out of them have come, with fresh marks.
pub record IsGrown (n : ℕ) (t : Target) (z : ℕ) (old new : List (Columns × Mark)) : Type 0 where
  pub sets : List Columns
  pub order : Rises report_cmp sets
  pub members : HasMembers (inside z (keys old) ++ grown n (choices n t) z (inside z (keys old)) (near z (outside z (keys old)))) sets
  pub from : IsInOrder old
  pub is : new ≡ toggled old sets fresh_mark

-- The new list is the old one where the left sides that contain a found set have gone and the found sets have come, with fresh marks.
pub record IsGeneralised (found : List Columns) (old new : List (Columns × Mark)) : Type 0 where
  pub sets : List Columns
  pub order : Rises report_cmp sets
  pub members : HasMembers (found ++ filter (λ x. list_any (λ y. subset y x) found) (keys old)) sets
  pub from : IsInOrder old
  pub is : new ≡ toggled old sets fresh_mark
