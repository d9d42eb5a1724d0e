-- What agree sets leave of a target's candidates where they don't concern it.
use Rattle.std.proofs.Common.{inl, inr, ◌≡◌, ◌⊎◌, ℕ, ◌<◌, ◌≤◌, Bool, true, false, not, ◌&&◌, refl, sym, ap, ◌∙◌, subst, arith, List, ◌++◌}
use Rattle.std.specs.List.{list_any}
use Rattle.std.proofs.lemmas.Bool.{true≢false, and_parts, and_from, not-true, false_from_ne_true}
use Rattle.col_set.specs.declared.target.Target.{Target}
use Rattle.col_set.specs.declared.target.Target.TheVariants.{Col, RowId}
use Rattle.col_set.specs.ColSet.{subset}
use Rattle.col_set.specs.Target.{IsColumnTarget, has_target}
use Rattle.col_set.specs.Subsets.{IsSubset, IsSubset-trans, subset-true, true-subset}
use Rattle.col_set.specs.Evidence.{refuted, refutes, least}
use Rattle.col_set.specs.Lists.{Listed, Listed-map, Listed-append_left, Listed-append_cases, list_any_at, list_any_which}
use Rattle.col_set.proofs.Least.{IsLeast-listed}
use Rattle.candidate_cover.specs.declared.cand.Cand.{Cand}
use Rattle.candidate_cover.specs.Lists.{CandLists}
use Rattle.candidate_cover.specs.Cands.{cands_of, lefts}
use Rattle.col_set.proofs.Whole.{least-same}
use Rattle.negative_cover.specs.Concerning.{is_open}

-- ---- targets
pub within_128 : (n : ℕ) (t : Target) → n ≤ 128 → IsColumnTarget n t → IsColumnTarget 128 t
within_128 n RowId l h = tt
within_128 n (Col a) l h = let m : a < n = h in omega arith

-- ---- a further agree set
pub told_one : (h r : Bool) → h ≡ false → (not h && not r) ≡ false → r ≡ true
told_one true r e f = absurd (true≢false e)
told_one false true e f = refl
told_one false false e f = absurd (true≢false f)

-- a target that it does not concern keeps its candidates
pub unconcerned : (n : ℕ) (ws : List ℕ) (c : CandLists) (t : Target) (z : ℕ) → lefts (cands_of c t) ≡ least n ws t → is_open ws z t ≡ false → (d : Cand) → Listed d (cands_of c t) → (subset d.left z && not (has_target z t)) ≡ false
unfolding refuted
unconcerned n ws c t z e shut d h = false_from_ne_true _ (λ i.
    let p = and_parts _ _ i in
    let w = list_any_which (λ w. refutes w z t) ws (told_one (has_target z t) (refuted ws t z) (not-true _ p.1) shut) in
    let q = and_parts _ _ w.2 in
    let inside : IsSubset d.left w.0 = IsSubset-trans {x = d.left} {y = z} {z = w.0} (subset-true p.0) (subset-true q.0) in
    let l = IsLeast-listed n ws t d.left (subst (Listed d.left) e (Listed-map (λ (c : Cand). c.left) d (cands_of c t) h)) in
    true≢false (sym (list_any_at (λ w. refutes w d.left t) w.0 ws w.1 (and_from _ _ (true-subset inside) q.1)) ∙ l.stands))

-- ---- agree sets that are withdrawn
pub list_any-none : {X : Type 0} (p : X → Bool) (xs : List X) (x : X) → list_any p xs ≡ false → Listed x xs → p x ≡ false
list_any-none p xs x e h = false_from_ne_true _ (λ i. true≢false (sym (list_any_at p x xs h i) ∙ e))

pub none_lacks : (zs : List ℕ) (t : Target) → list_any (λ z. not (has_target z t)) zs ≡ false → (z : ℕ) → Listed z zs → has_target z t ≡ true
none_lacks zs t e z h = by (has_target z t) (list_any-none (λ z. not (has_target z t)) zs z e h)
  where
    by : (b : Bool) → not b ≡ false → b ≡ true
    by true i = refl
    by false i = absurd (true≢false i)

-- where each withdrawn set has the target, the rest leaves what all left
pub least-idle : (n : ℕ) (rest gone : List ℕ) (t : Target) → ((z : ℕ) → Listed z gone → has_target z t ≡ true) → least n (rest ++ gone) t ≡ least n rest t
unfolding refuted
least-idle n rest gone t f = sym (least-same n rest (rest ++ gone) t
    (λ x b e. let w = list_any_which (λ w. subset x w && not (has_target w t)) rest e in list_any_at (λ w. subset x w && not (has_target w t)) w.0 (rest ++ gone) (Listed-append_left w.0 rest gone w.1) w.2)
    (λ x h. false_from_ne_true _ (λ e. let w = list_any_which (λ w. subset x w && not (has_target w t)) (rest ++ gone) e in by x h w.0 w.2 (Listed-append_cases w.0 rest gone w.1))))
  where
    by : (x : ℕ) → Listed x (least n rest t) → (w : ℕ) → (subset x w && not (has_target w t)) ≡ true → Listed w rest ⊎ Listed w gone → ⊥
    by x h w e (inl g) = true≢false (sym (list_any_at (λ w. subset x w && not (has_target w t)) w rest g e) ∙ (IsLeast-listed n rest t x h).stands)
    by x h w e (inr g) = true≢false (sym (and_parts (subset x w) (not (has_target w t)) e).1 ∙ ap not (f w g))
