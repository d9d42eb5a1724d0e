-- Whether an agree set refutes a candidate, target by target.
use Rattle.std.proofs.Common.{◌≡◌, ℕ, ◌<◌, Bool, true, false, not, ◌&&◌, ◌||◌, cond, refl, sym, ap, ◌∙◌, List, [], ◌∷◌, map, Some}
use Rattle.std.specs.Prelude.{is_some}
use Rattle.std.specs.List.{find, list_any}
use Rattle.std.proofs.lemmas.Bool.{true≢false, false_from_ne_true}
use Rattle.col_set.specs.declared.target.Target.{Target}
use Rattle.col_set.specs.declared.target.Target.TheVariants.{Col, RowId}
use Rattle.col_set.specs.ColSet.{subset}
use Rattle.col_set.specs.Target.{IsColumnTarget, has_target}
use Rattle.col_set.specs.Lists.{Listed-map, Listed-map_which, Listed-flat_map, Listed-flat_map_which, list_any_at, list_any_which}
use Rattle.candidate_cover.specs.declared.cand.Cand.{Cand}
use Rattle.candidate_cover.specs.Lists.{CandLists}
use Rattle.candidate_cover.specs.Cands.{cands_of}
use Rattle.cover_steps.specs.Core.{targets, entries_in}
use Rattle.cover_steps.proofs.Found.{Listed-targets, targets_within}

-- whether it refutes a candidate of a target
abbrev pub refuted_in : CandLists → ℕ → Target → Bool
refuted_in c z t = list_any (λ (k : Cand). subset k.left z && not (has_target z t)) (cands_of c t)

-- whether it refutes an entry
abbrev pub refutes_entry : ℕ → Target × Cand → Bool
refutes_entry z e = subset e.1.left z && not (has_target z e.0)

pub refuted-some : (n : ℕ) (c : CandLists) (z : ℕ) (t : Target) → IsColumnTarget n t → refuted_in c z t ≡ true → list_any (refutes_entry z) (entries_in n c) ≡ true
refuted-some n c z t l e =
    let w = list_any_which (λ (k : Cand). subset k.left z && not (has_target z t)) (cands_of c t) e in
    list_any_at (refutes_entry z) (t, w.0) (entries_in n c)
    (Listed-flat_map (λ (t : Target). map (λ (k : Cand). (t, k)) (cands_of c t)) t (t, w.0) (targets n) (Listed-targets n t l) (Listed-map (λ (k : Cand). (t, k)) w.0 (cands_of c t) w.1)) w.2

pub refuted-none : (n : ℕ) (c : CandLists) (z : ℕ) → ((t : Target) → IsColumnTarget n t → refuted_in c z t ≡ false) → list_any (refutes_entry z) (entries_in n c) ≡ false
refuted-none n c z f = false_from_ne_true _ (λ e.
    let w = list_any_which (refutes_entry z) (entries_in n c) e in
    let v = Listed-flat_map_which (λ (t : Target). map (λ (k : Cand). (t, k)) (cands_of c t)) w.0 (targets n) w.1 in
    let u = Listed-map_which (λ (k : Cand). (v.0, k)) w.0 (cands_of c v.0) v.2 in
    let te : w.0.0 ≡ v.0 = ap (λ (p : Target × Cand). p.0) u.2 in
    let ce : w.0.1 ≡ u.0 = ap (λ (p : Target × Cand). p.1) u.2 in
    let at : (subset u.0.left z && not (has_target z v.0)) ≡ true = ap (λ (p : Target × Cand). refutes_entry z p) (sym u.2) ∙ w.2 in
    true≢false (sym (list_any_at (λ (k : Cand). subset k.left z && not (has_target z v.0)) u.0 (cands_of c v.0) u.1 at) ∙ f v.0 (targets_within n v.0 v.1)))

pub refuted-none_by : (n : ℕ) (c : CandLists) (z : ℕ) → refuted_in c z RowId ≡ false → ((j : ℕ) → j < n → refuted_in c z (Col j) ≡ false) → list_any (refutes_entry z) (entries_in n c) ≡ false
refuted-none_by n c z e f = refuted-none n c z each
  where
    each : (t : Target) → IsColumnTarget n t → refuted_in c z t ≡ false
    each RowId l = e
    each (Col a) l = f a l

-- ---- one target
pub is_some-find : {X : Type 0} (p : X → Bool) (xs : List X) → is_some (find p xs) ≡ list_any p xs
is_some-find p [] = refl
is_some-find p (x ∷ xs) = by (p x) (is_some-find p xs)
  where
    by : (b : Bool) → is_some (find p xs) ≡ list_any p xs → is_some (cond b (Some x) (find p xs)) ≡ (b || list_any p xs)
    by true e = refl
    by false e = e

pub refuted-lacking : (z : ℕ) (t : Target) (cs : List Cand) → has_target z t ≡ false → list_any (λ (k : Cand). subset k.left z) cs ≡ list_any (λ (k : Cand). subset k.left z && not (has_target z t)) cs
refuted-lacking z t [] e = refl
refuted-lacking z t (c ∷ cs) e = by (subset c.left z) (has_target z t) e (refuted-lacking z t cs e)
  where
    by : (a b : Bool) → b ≡ false → {u v : Bool} → u ≡ v → (a || u) ≡ ((a && not b) || v)
    by true true e f = absurd (true≢false e)
    by true false e f = refl
    by false b e f = f

pub refuted-having : (z : ℕ) (t : Target) (cs : List Cand) → has_target z t ≡ true → false ≡ list_any (λ (k : Cand). subset k.left z && not (has_target z t)) cs
refuted-having z t [] e = refl
refuted-having z t (c ∷ cs) e = by (subset c.left z) (has_target z t) e (refuted-having z t cs e)
  where
    by : (a b : Bool) → b ≡ true → {v : Bool} → false ≡ v → false ≡ ((a && not b) || v)
    by true true e f = f
    by true false e f = absurd (true≢false (sym e))
    by false b e f = f
