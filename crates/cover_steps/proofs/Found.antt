-- Targets and candidates among the entries.
use Rattle.std.proofs.Common.{inl, inr, ◌≡◌, ℕ, ltb, true, false, not, ◌&&◌, refl, sym, ap, subst, map, Some, None}
use Rattle.std.proofs.lemmas.Bool.{and_parts}
use Rattle.col_set.specs.declared.target.Target.{Target}
use Rattle.col_set.specs.declared.target.Target.TheVariants.{Col, RowId}
use Rattle.col_set.specs.ColSet.{subset, upto}
use Rattle.col_set.specs.Target.{IsColumnTarget, has_target}
use Rattle.col_set.specs.Subsets.{IsSubset, subset-true}
use Rattle.col_set.specs.AllSets.{Listed-upto, Listed-upto_within}
use Rattle.col_set.specs.Lists.{Listed, Listed-map, Listed-map_which, Listed-flat_map, Listed-flat_map_which, list_any_which}
use Rattle.rel_base.specs.RowState.{width, next}
use Rattle.candidate_cover.specs.declared.cand.Cand.{Cand}
use Rattle.cover_steps.specs.Core.{Core, targets, cands, entries, is_unfinished, is_drawable, first_unfinished, first_drawable, refutes_some}
use Rattle.cover_steps.proofs.Lists.{find-Some, find-None}

pub Listed-targets : (n : ℕ) (t : Target) → IsColumnTarget n t → Listed t (targets n)
Listed-targets n RowId l = inl refl
Listed-targets n (Col a) l = inr (Listed-map (λ (a : ℕ). let f : ℕ → Target = λ a. Col a in f a) a (upto n) (Listed-upto n a l))

pub targets_within : (n : ℕ) (t : Target) → Listed t (targets n) → IsColumnTarget n t
targets_within n t (inl e) = subst (IsColumnTarget n) (sym e) tt
targets_within n t (inr h) =
    let w = Listed-map_which (λ (a : ℕ). let f : ℕ → Target = λ a. Col a in f a) t (upto n) h in
    subst (IsColumnTarget n) (sym w.2) (Listed-upto_within n w.0 w.1)

-- an entry is a candidate of its target
pub record IsEntry (s : Core) (t : Target) (c : Cand) : Type 0 where
  pub target : IsColumnTarget (width s.rows) t
  pub listed : Listed c (cands s t)

pub IsEntry-listed : (s : Core) (e : Target × Cand) → Listed e (entries s) → IsEntry s e.0 e.1
IsEntry-listed s e h =
    let w = Listed-flat_map_which (λ (t : Target). map (λ (c : Cand). (t, c)) (cands s t)) e (targets (width s.rows)) h in
    let v = Listed-map_which (λ (c : Cand). (w.0, c)) e (cands s w.0) w.2 in
    let te : e.0 ≡ w.0 = ap (λ (p : Target × Cand). p.0) v.2 in
    let ce : e.1 ≡ v.0 = ap (λ (p : Target × Cand). p.1) v.2 in
    record {
      target = subst (IsColumnTarget (width s.rows)) (sym te) (targets_within (width s.rows) w.0 w.1);
      listed = subst (λ (t : Target). Listed e.1 (cands s t)) (sym te) (subst (λ (c : Cand). Listed c (cands s w.0)) (sym ce) v.1);
    }

pub Listed-entries : (s : Core) (t : Target) (c : Cand) → IsColumnTarget (width s.rows) t → Listed c (cands s t) → Listed (t, c) (entries s)
Listed-entries s t c l h =
    Listed-flat_map (λ (t : Target). map (λ (c : Cand). (t, c)) (cands s t)) t (t, c) (targets (width s.rows)) (Listed-targets (width s.rows) t l) (Listed-map (λ (c : Cand). (t, c)) c (cands s t) h)

-- the first drawable candidate is one, and is not held
pub drawable-entry : (s : Core) (t : Target) (c : Cand) → first_drawable s ≡ Some (t, c) → IsEntry s t c
unfolding first_drawable
drawable-entry s t c e = IsEntry-listed s (t, c) (find-Some (λ (e : Target × Cand). is_drawable (next s.rows) e.1) (entries s) (t, c) e).0

pub drawable-test : (s : Core) (t : Target) (c : Cand) → first_drawable s ≡ Some (t, c) → is_drawable (next s.rows) c ≡ true
unfolding first_drawable
drawable-test s t c e = (find-Some (λ (e : Target × Cand). is_drawable (next s.rows) e.1) (entries s) (t, c) e).1

-- where no candidate is unfinished, none is
pub all_finished : (s : Core) (t : Target) (c : Cand) → first_unfinished s ≡ None → IsColumnTarget (width s.rows) t → Listed c (cands s t) → ltb c.upto (next s.rows) ≡ false
unfolding first_unfinished
all_finished s t c e l h = find-None (λ (e : Target × Cand). is_unfinished (next s.rows) e.1) (entries s) (t, c) e (Listed-entries s t c l h)

-- a candidate that an agree set refutes
pub record Refutes (s : Core) (z : ℕ) : Type 0 where
  pub target : Target
  pub cand : Cand
  pub entry : IsEntry s target cand
  pub inside : IsSubset cand.left z
  pub lacks : (subset cand.left z && not (has_target z target)) ≡ true

pub refutes_some-which : (s : Core) (z : ℕ) → refutes_some s z ≡ true → Refutes s z
unfolding refutes_some
refutes_some-which s z e =
    let w = list_any_which (λ (e : Target × Cand). subset e.1.left z && not (has_target z e.0)) (entries s) e in
    record { target = w.0.0; cand = w.0.1; entry = IsEntry-listed s w.0 w.1; inside = subset-true (and_parts _ _ w.2).0; lacks = w.2 }
