-- CandLists of which a list is made anew, and lists of candidates by target.
use Rattle.std.proofs.Common.{inl, inr, ◌≡◌, ◌⊎◌, ℕ, Bool, true, false, cond, eqb, refl, sym, ap, ◌∙◌, arith, List, [], ◌∷◌, length, Some}
use Rattle.std.specs.Prelude.{unwrap_or}
use Rattle.std.specs.List.{find}
use Rattle.std.proofs.lemmas.Bool.{eqb-true, cases_eq}
use Rattle.std.proofs.lemmas.List.{get_or-set_same, get_or-set_other}
use Rattle.std.proofs.lemmas.List.FromFn.{get_or-map-range_with_len}
use Rattle.col_set.specs.declared.target.Target.{Target}
use Rattle.col_set.specs.declared.target.Target.TheVariants.{Col, RowId}
use Rattle.col_set.specs.Target.{IsColumnTarget}
use Rattle.col_set.specs.Evidence.{least}
use Rattle.col_set.specs.Lists.{Listed}
use Rattle.candidate_cover.specs.declared.cand.Cand.{Cand}
use Rattle.candidate_cover.specs.Lists.{CandLists}
use Rattle.candidate_cover.specs.Cands.{cands_of, with_list, lefts, fresh, kept_or_fresh}
use Rattle.cover_steps.specs.Core.{renewed, renewed_list}
use Rattle.cover_steps.proofs.Lists.{map_map, map_itself}

-- a candidate of a list that is made anew is fresh, or one that there was
pub kept_cases : (old : List Cand) (x : ℕ) → (kept_or_fresh old x ≡ fresh x) ⊎ (Listed (kept_or_fresh old x) old × ((kept_or_fresh old x).left ≡ x))
kept_cases [] x = inl refl
kept_cases (c ∷ cs) x = by (eqb c.left x) refl (kept_cases cs x)
  where
    by : (b : Bool) → eqb c.left x ≡ b
        → (unwrap_or (find (λ c. eqb c.left x) cs) (fresh x) ≡ fresh x) ⊎ (Listed (unwrap_or (find (λ c. eqb c.left x) cs) (fresh x)) cs × ((unwrap_or (find (λ c. eqb c.left x) cs) (fresh x)).left ≡ x))
        → (unwrap_or (cond b (Some c) (find (λ c. eqb c.left x) cs)) (fresh x) ≡ fresh x)
        ⊎ (Listed (unwrap_or (cond b (Some c) (find (λ c. eqb c.left x) cs)) (fresh x)) (c ∷ cs) × ((unwrap_or (cond b (Some c) (find (λ c. eqb c.left x) cs)) (fresh x)).left ≡ x))
    by true e r = inr (inl refl, eqb-true _ _ e)
    by false e (inl i) = inl i
    by false e (inr i) = inr (inr i.0, i.1)

pub left-kept_or_fresh : (old : List Cand) (x : ℕ) → (kept_or_fresh old x).left ≡ x
left-kept_or_fresh old x = elim (kept_cases old x) as (λ _. (kept_or_fresh old x).left ≡ x) [ inl e ↦ ap (λ (c : Cand). c.left) e | inr w ↦ w.1 ]

pub lefts-renewed : (n : ℕ) (ws : List ℕ) (c : CandLists) (t : Target) → lefts (renewed_list n ws c t) ≡ least n ws t
lefts-renewed n ws c t = map_map (λ (c : Cand). c.left) (kept_or_fresh (cands_of c t)) (least n ws t) ∙ map_itself _ (least n ws t) (left-kept_or_fresh (cands_of c t))

pub cands_of-renewed : (n : ℕ) (ws : List ℕ) (c : CandLists) (t : Target) → IsColumnTarget n t → cands_of (renewed n ws c) t ≡ renewed_list n ws c t
unfolding renewed
cands_of-renewed n ws c RowId l = refl
cands_of-renewed n ws c (Col a) l = get_or-map-range_with_len (λ a. renewed_list n ws c (Col a)) 0 n a a [] l (omega arith)

-- another list for a target leaves those of the other targets
pub cands_of-with_list : (c : CandLists) (t : Target) (cs : List Cand) → IsColumnTarget (length c.columns) t → cands_of (with_list c t cs) t ≡ cs
cands_of-with_list c RowId cs l = refl
cands_of-with_list c (Col a) cs l = get_or-set_same c.columns a cs [] l

pub target_cases : (c : CandLists) (t u : Target) (cs : List Cand) → (t ≡ u) ⊎ (cands_of (with_list c t cs) u ≡ cands_of c u)
target_cases c RowId RowId cs = inl refl
target_cases c RowId (Col b) cs = inr refl
target_cases c (Col a) RowId cs = inr refl
target_cases c (Col a) (Col b) cs = elim (cases_eq b a) as (λ _. (let f : ℕ → Target = λ a. Col a in f a ≡ f b) ⊎ (cands_of (with_list c (Col a) cs) (Col b) ≡ cands_of c (Col b))) [
  | inl e ↦ inl (ap (λ (k : ℕ). let f : ℕ → Target = λ a. Col a in f k) (sym e))
  | inr ne ↦ inr (get_or-set_other c.columns a b cs [] ne)
]
