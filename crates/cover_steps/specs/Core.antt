-- The state of the shared cover: the rows, the witnesses, and the candidates of each target (HyFD's and DynFD's covers,
-- Papenbrock and Naumann, 2016; Schirmer and others, 2019).
use Rattle.std.specs.Prelude.{ℕ, nat_lt, Bool, not, ◌&&◌, List, [], ◌∷◌, ◌++◌, map, replicate, Option}
use Rattle.std.specs.List.{filter, find, list_any, flat_map}
use Rattle.col_set.specs.declared.target.Target.{Target}
use Rattle.col_set.specs.declared.target.Target.TheVariants.{Col, RowId}
use Rattle.col_set.specs.ColSet.{Columns, subset, upto}
use Rattle.col_set.specs.Target.{has_target}
use Rattle.col_set.specs.Evidence.{least}
use Rattle.rel_base.specs.RowState.{RowState, width, next}
use Rattle.rel_base.specs.Validity.{agree_of}
use Rattle.rel_base.specs.Covers.{CoverLists, fds_to}
use Rattle.rel_base.specs.Batches.{is_live}
use Rattle.negative_cover.specs.declared.negative_cover.Witness.{Witness}
use Rattle.negative_cover.specs.Witnesses.{sets_of}
use Rattle.candidate_cover.specs.declared.cand.Cand.{Cand}
use Rattle.candidate_cover.specs.Lists.{CandLists}
use Rattle.candidate_cover.specs.Cands.{cands_of, with_list, lefts, fresh, kept_or_fresh}

pub record Core : Type 0 where
  pub rows : RowState
  pub witnesses : List Witness
  pub candidates : CandLists

-- the empty set for each target of n columns, of which nothing is known
abbrev pub one_each : ℕ → CandLists
one_each n = record { row_id = fresh 0 ∷ []; columns = replicate n (fresh 0 ∷ []) }

-- no witness, and for each target the empty set
abbrev pub opened_core : RowState → Core
opened_core r = record { rows = r; witnesses = []; candidates = one_each (width r) }

-- the targets of n columns in order
abbrev pub targets : ℕ → List Target
targets n = RowId ∷ map (λ a. Col a) (upto n)

abbrev pub cands : Core → Target → List Cand
cands s t = cands_of s.candidates t

-- each candidate of n columns with its target: by target, and in report order
abbrev pub entries_in : ℕ → CandLists → List (Target × Cand)
entries_in n c = flat_map (λ t. map (λ k. (t, k)) (cands_of c t)) (targets n)

abbrev pub entries : Core → List (Target × Cand)
entries s = entries_in (width s.rows) s.candidates

-- whether a candidate is known to hold below this number only
abbrev pub is_unfinished : ℕ → Cand → Bool
is_unfinished n c = nat_lt c.upto n

-- whether it is not held besides
abbrev pub is_drawable : ℕ → Cand → Bool
is_drawable n c = nat_lt c.upto n && not c.held

-- the first candidate that is not known to hold in all rows
unfoldable pub first_unfinished : Core → Option (Target × Cand)
first_unfinished s = find (λ e. is_unfinished (next s.rows) e.1) (entries s)

-- the first of them that is not held
unfoldable pub first_drawable : Core → Option (Target × Cand)
first_drawable s = find (λ e. is_drawable (next s.rows) e.1) (entries s)

-- whether an agree set refutes a candidate
unfoldable pub refutes_some : Core → Columns → Bool
refutes_some s z = list_any (λ e. subset e.1.left z && not (has_target z e.0)) (entries s)

-- other candidates for a target
abbrev pub with_cands : Core → Target → List Cand → Core
with_cands s t cs = record { rows = s.rows; witnesses = s.witnesses; candidates = with_list s.candidates t cs }

-- what these agree sets leave for a target, where a candidate that stays is as it was
abbrev pub renewed_list : ℕ → List Columns → CandLists → Target → List Cand
renewed_list n ws c t = map (kept_or_fresh (cands_of c t)) (least n ws t)

unfoldable pub renewed : ℕ → List Columns → CandLists → CandLists
renewed n ws c = record { row_id = renewed_list n ws c RowId; columns = map (λ a. renewed_list n ws c (Col a)) (upto n) }

-- two rows as a witness
abbrev pub witness_of : RowState → ℕ → ℕ → Witness
witness_of r i j = record { i = i; j = j; agree = agree_of r i j }

-- the state after a further witness
abbrev pub booked : Core → ℕ → ℕ → Core
booked s i j = record {
  rows = s.rows;
  witnesses = s.witnesses ++ witness_of s.rows i j ∷ [];
  candidates = renewed (width s.rows) (sets_of (s.witnesses ++ witness_of s.rows i j ∷ [])) s.candidates;
}

-- the witnesses whose rows are both live
abbrev pub standing : RowState → List Witness → List Witness
standing r ws = filter (λ w. is_live r w.i && is_live r w.j) ws

-- the state where these are the rows, after the witnesses with a dead row were withdrawn
abbrev pub with_rows : Core → RowState → Core
with_rows s r = record {
  rows = r;
  witnesses = standing r s.witnesses;
  candidates = renewed (width r) (sets_of (standing r s.witnesses)) s.candidates;
}

-- the candidates as covers
abbrev pub listed_covers : Core → CoverLists
listed_covers s = record {
  keys = lefts (cands s RowId);
  fds = flat_map (λ a. fds_to a (lefts (cands s (Col a)))) (upto (width s.rows));
}
