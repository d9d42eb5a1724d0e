-- When a list of candidates that is made anew is as it was, and when two sets of lists are equal.
use Rattle.std.proofs.Common.{inl, inr, ◌≡◌, ◌⊎◌, ℕ, eqb, Bool, true, false, cond, not, ◌&&◌, refl, sym, ap, ◌∙◌, subst, List, [], ◌∷◌, ◌++◌, length, map, Some, Less}
use Rattle.std.specs.Prelude.{unwrap_or}
use Rattle.std.specs.List.{find}
use Rattle.std.proofs.lemmas.Bool.{true≢false, false≢true, eqb-true, eq-eqb, false_from_ne_true}
use Rattle.std.proofs.lemmas.List.{ext_get_or}
use Rattle.std.proofs.lemmas.Cmp.{tied_itself}
use Rattle.col_set.specs.declared.target.Target.{Target}
use Rattle.col_set.specs.declared.target.Target.TheVariants.{Col, RowId}
use Rattle.col_set.specs.ColSet.{subset, report_cmp}
use Rattle.col_set.specs.Target.{IsColumnTarget, has_target}
use Rattle.col_set.specs.Columns.{report_total}
use Rattle.col_set.specs.Evidence.{refuted, least}
use Rattle.col_set.specs.Lists.{Listed, Rises, Listed-append_left, Listed-append_cases, Listed-map, Listed-map_which, list_any_at, list_any_which}
use Rattle.col_set.proofs.Least.{IsLeast-listed}
use Rattle.col_set.proofs.More.{Rises-least}
use Rattle.candidate_cover.specs.declared.cand.Cand.{Cand}
use Rattle.candidate_cover.specs.Lists.{CandLists}
use Rattle.candidate_cover.specs.Cands.{cands_of, lefts, fresh, kept_or_fresh}
use Rattle.cover_steps.specs.Core.{renewed_list}
use Rattle.cover_steps.proofs.Lists.{map_map, map_same_listed}
use Rattle.col_set.proofs.Whole.{least-same}

-- ---- a list of its own left sides
-- of candidates with different left sides, each is found by its own
kept-listed : (cs : List Cand) (c : Cand) → Rises report_cmp (lefts cs) → Listed c cs → kept_or_fresh cs c.left ≡ c
kept-listed [] c r h = absurd h
kept-listed (d ∷ ds) c r h = by (eqb d.left c.left) refl h (λ g. kept-listed ds c r.1 g)
  where
    other : Listed c ds → d.left ≡ c.left → ⊥
    other g e =
        let l : report_cmp d.left c.left ≡ Less = r.0 c.left (Listed-map (λ (c : Cand). c.left) c ds g) in
        let m : report_cmp d.left c.left ≡ report_cmp c.left c.left = ap (λ (x : ℕ). report_cmp x c.left) e in
        let f = tied_itself report_total c.left in cc

    by : (b : Bool) → eqb d.left c.left ≡ b → Listed c (d ∷ ds) → (Listed c ds → unwrap_or (find (λ d. eqb d.left c.left) ds) (fresh c.left) ≡ c) → unwrap_or (cond b (Some d) (find (λ d. eqb d.left c.left) ds)) (fresh c.left) ≡ c
    by true e (inl i) rest = sym i
    by true e (inr g) rest = absurd (other g (eqb-true d.left c.left e))
    by false e (inl i) rest = absurd (false≢true (sym e ∙ eq-eqb d.left c.left (ap (λ (c : Cand). c.left) (sym i))))
    by false e (inr g) rest = rest g

pub kept-same : (cs : List Cand) → Rises report_cmp (lefts cs) → map (kept_or_fresh cs) (lefts cs) ≡ cs
kept-same cs r = map_map (kept_or_fresh cs) (λ (c : Cand). c.left) cs ∙ map_same_listed (λ (c : Cand). kept_or_fresh cs c.left) (λ c. c) cs (λ c h. kept-listed cs c r h) ∙ itself cs
  where
    itself : (cs : List Cand) → map (λ c. c) cs ≡ cs
    itself [] = refl
    itself (c ∷ cs) = ap (λ (ds : List Cand). c ∷ ds) (itself cs)

-- A list whose left sides are already those that are left is as it was.
pub renewed_list-same : (n : ℕ) (ws : List ℕ) (c : CandLists) (t : Target) → lefts (cands_of c t) ≡ least n ws t → renewed_list n ws c t ≡ cands_of c t
renewed_list-same n ws c t e = ap (map (kept_or_fresh (cands_of c t))) (sym e) ∙ kept-same (cands_of c t) (subst (Rises report_cmp) (sym e) (Rises-least n ws t))

-- ---- a further agree set that concerns no candidate of a target
least-unconcerned : (n : ℕ) (ws : List ℕ) (t : Target) (z : ℕ) → ((x : ℕ) → Listed x (least n ws t) → (subset x z && not (has_target z t)) ≡ false) → least n ws t ≡ least n (ws ++ z ∷ []) t
unfolding refuted
least-unconcerned n ws t z f = least-same n ws (ws ++ z ∷ []) t
    (λ x b e. let w = list_any_which (λ w. subset x w && not (has_target w t)) ws e in list_any_at (λ w. subset x w && not (has_target w t)) w.0 (ws ++ z ∷ []) (Listed-append_left w.0 ws (z ∷ []) w.1) w.2)
    (λ x h. false_from_ne_true _ (λ e. let w = list_any_which (λ w. subset x w && not (has_target w t)) (ws ++ z ∷ []) e in by x h w.0 w.2 (Listed-append_cases w.0 ws (z ∷ []) w.1)))
  where
    by : (x : ℕ) → Listed x (least n ws t) → (w : ℕ) → (subset x w && not (has_target w t)) ≡ true → Listed w ws ⊎ Listed w (z ∷ []) → ⊥
    by x h w e (inl g) = true≢false (sym (list_any_at (λ w. subset x w && not (has_target w t)) w ws g e) ∙ (IsLeast-listed n ws t x h).stands)
    by x h w e (inr (inl i)) = true≢false (sym e ∙ ap (λ (w : ℕ). subset x w && not (has_target w t)) i ∙ f x h)
    by x h w e (inr (inr g)) = g

-- A target stays as it is where the agree set refutes none of its candidates.
pub renewed_list-unconcerned : (n : ℕ) (ws : List ℕ) (c : CandLists) (t : Target) (z : ℕ) → lefts (cands_of c t) ≡ least n ws t
    → ((d : Cand) → Listed d (cands_of c t) → (subset d.left z && not (has_target z t)) ≡ false) → renewed_list n (ws ++ z ∷ []) c t ≡ cands_of c t
renewed_list-unconcerned n ws c t z e f = renewed_list-same n (ws ++ z ∷ []) c t (e ∙ least-unconcerned n ws t z (λ x h. let w = which x (subst (Listed x) (sym e) h) in ap (λ (x : ℕ). subset x z && not (has_target z t)) w.2 ∙ f w.0 w.1))
  where
    which : (x : ℕ) → Listed x (lefts (cands_of c t)) → (d : Cand) × Listed d (cands_of c t) × (x ≡ d.left)
    which x h = Listed-map_which (λ (d : Cand). d.left) x (cands_of c t) h

-- ---- equal lists for each target
pub same_lists : (c d : CandLists) → length c.columns ≡ length d.columns → ((t : Target) → IsColumnTarget (length c.columns) t → cands_of c t ≡ cands_of d t) → c ≡ d
same_lists c d e f = λ i. record { row_id = f RowId tt i; columns = ext_get_or [] c.columns d.columns e (λ k l. f (Col k) l) i }
