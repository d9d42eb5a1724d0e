-- One pending agree set, and the agree sets that are news for a target.
use Rattle.std.proofs.Common.{inl, inr, ◌≡◌, ℕ, ◌<◌, Bool, true, false, not, ◌&&◌, ◌||◌, refl, sym, ap, ◌∙◌, arith, subst, List, [], ◌∷◌, ◌++◌, cond, length, get_or, take, drop, ◌+◌}
use Rattle.std.specs.List.{list_any}
use Rattle.std.proofs.lemmas.Bool.{true≢false, and_parts, and_from, or_cases, or_left, or_right, not-true, not_from_false, true_from_ne_false}
use Rattle.std.proofs.lemmas.List.{take-append-drop, take_more}
use Rattle.col_set.specs.declared.target.Target.{Target}
use Rattle.col_set.specs.ColSet.{IsSubset, has, minus, subset}
use Rattle.col_set.specs.Target.{has_target}
use Rattle.col_set.specs.Evidence.{refuted}
use Rattle.col_set.specs.Members.{has-minus}
use Rattle.col_set.specs.Subsets.{IsSubset-refl, subset-true, true-subset, same_test}
use Rattle.col_set.specs.Lists.{Listed, Listed-append_right, Listed-append_cases, list_any_at, list_any_which}
use Rattle.col_set.proofs.Places.{Listed-get_or}
use Rattle.col_set.proofs.Least.{refuted_inside, lacks_inside}
use Rattle.least_sets.specs.Growth.{having, IsLeastAmong, ListsLeast}
use Rattle.least_sets.specs.Branches.{sees, join, IsCut, IsOwned, IsBranch, HasBranched, HasEnded}
use Rattle.least_sets.proofs.Branches.{branch_dead, covered_at, ended_as}
use Rattle.least_sets.proofs.Evidence.{refuted-append}

-- ---- one pending agree set
-- where just one agree set is pending, each least set takes one free column that this one lacks
pub branch_sole : {all : Bool} (ws : List ℕ) (s free few left lacked sole : ℕ) (lists : List (List ℕ)) (old mid : List ℕ) → IsSubset few free → ((k : ℕ) → has few k ≡ true → (vs : List ℕ) → Listed vs lists → sees vs k ≡ true)
    → ((k : ℕ) → has free k ≡ true → has few k ≡ false → (vs : List ℕ) × Listed vs lists × (sees vs k ≡ false)) → lacked ≡ minus few sole → IsSubset left few → ((k : ℕ) → has lacked k ≡ true → has left k ≡ false)
    → ((vs ps os : List ℕ) → IsBranch vs s few ps os → 0 < length ps → ((k : ℕ) → has lacked k ≡ true → having k ps ≡ []) → ((k : ℕ) → has lacked k ≡ true → IsOwned (having k os) s) → HasEnded vs s few left ps os old mid)
    → IsCut s lists → IsBranch ws s free (sole ∷ []) (join lists) → HasBranched all ws s free old mid
branch_sole {all} ws s free few left lacked sole lists old mid low owned unowned is left_low gone ended cut b = whole.whole all mid (branch_dead ws s left (sole ∷ []) (join lists) whole.branch (covered_at (sole ∷ []) left sole (inl refl) (record { each = inside })) mid)
  where
    lack : (k : ℕ) → has lacked k ≡ (has few k && not (has sole k))
    lack k = ap (λ (v : ℕ). has v k) is ∙ has-minus few sole k

    whole : HasEnded ws s free left (sole ∷ []) (join lists) old mid
    whole = ended_as ws s free few left lacked (sole ∷ []) (sole ∷ []) lists lists old mid refl refl (omega arith) low (record { each = λ k h. (and_parts (has few k) _ (sym (lack k) ∙ h)).0 }) owned unowned
        (λ k h. ap (λ d. cond d (sole ∷ []) []) (not-true _ (and_parts (has few k) _ (sym (lack k) ∙ h)).1)) cut b ended

    inside : (k : ℕ) → has left k ≡ true → has sole k ≡ true
    inside k h = true_from_ne_false _ (λ n. true≢false (sym h ∙ gone k (lack k ∙ and_from _ _ (left_low.each k h) (ap not n))))

-- ---- news for a target
-- The outer agree sets contain what is refuted. Where the first of them lie inside old ones that lack the target, the others refute what
-- the old ones do not.
pub refuted_fresh : (ws old outer : List ℕ) (n : ℕ) (t : Target) → ((x : ℕ) → list_any (λ w. subset x w) outer ≡ refuted ws t x) → ((x : ℕ) → refuted old t x ≡ true → refuted ws t x ≡ true)
    → ((w : ℕ) → Listed w (take n outer) → refuted old t w ≡ true) → (x : ℕ) → refuted (old ++ drop n outer) t x ≡ refuted ws t x
unfolding refuted
refuted_fresh ws old outer n t tell less known x = refuted-append old (drop n outer) t x ∙ same_test _ _ there back
  where
    there : (refuted old t x || refuted (drop n outer) t x) ≡ true → refuted ws t x ≡ true
    there h = elim (or_cases (refuted old t x) _ h) as (λ _. refuted ws t x ≡ true) [
      | inl g ↦ less x g
      | inr g ↦
          let w = list_any_which (λ w. subset x w && not (has_target w t)) (drop n outer) g in
          sym (tell x) ∙ list_any_at (λ w. subset x w) w.0 outer (subst (Listed w.0) (take-append-drop n outer) (Listed-append_right w.0 (take n outer) (drop n outer) w.1)) (and_parts (subset x w.0) _ w.2).0
    ]

    lacks : (w : ℕ) → Listed w outer → has_target w t ≡ false
    lacks w h =
        let v = list_any_which (λ v. subset w v && not (has_target v t)) ws (sym (tell w) ∙ list_any_at (λ v. subset w v) w outer h (true-subset (IsSubset-refl w))) in
        let q = and_parts (subset w v.0) _ v.2 in
        lacks_inside t (subset-true q.0) (not-true _ q.1)

    back : refuted ws t x ≡ true → (refuted old t x || refuted (drop n outer) t x) ≡ true
    back h =
        let w = list_any_which (λ w. subset x w) outer (tell x ∙ h) in
        elim (Listed-append_cases w.0 (take n outer) (drop n outer) (subst (Listed w.0) (sym (take-append-drop n outer)) w.1)) as (λ _. (refuted old t x || refuted (drop n outer) t x) ≡ true) [
          | inl g ↦ or_left _ _ (refuted_inside old t (subset-true w.2) (known w.0 g))
          | inr g ↦ or_right (refuted old t x) _ (list_any_at (λ w. subset x w && not (has_target w t)) w.0 (drop n outer) g (and_from _ _ w.2 (not_from_false _ (lacks w.0 w.1))))
        ]

pub refuted_front : (ws : List ℕ) (n : ℕ) (t : Target) (x : ℕ) → refuted (take n ws) t x ≡ true → refuted ws t x ≡ true
refuted_front ws n t x h = ap (λ (vs : List ℕ). refuted vs t x) (sym (take-append-drop n ws)) ∙ refuted-append (take n ws) (drop n ws) t x ∙ or_left _ _ h

-- an agree set of the list that lacks the target
pub refuted_itself : (ws : List ℕ) (t : Target) (w : ℕ) → Listed w ws → has_target w t ≡ false → refuted ws t w ≡ true
unfolding refuted
refuted_itself ws t w h e = list_any_at (λ v. subset w v && not (has_target v t)) w ws h (and_from _ _ (true-subset (IsSubset-refl w)) (not_from_false _ e))

-- the same is refuted
least_same : (u : ℕ) (ws vs : List ℕ) (t : Target) (x : ℕ) → ((y : ℕ) → refuted vs t y ≡ refuted ws t y) → IsLeastAmong u ws t x → IsLeastAmong u vs t x
least_same u ws vs t x same l = record { within = l.within; stands = same x ∙ l.stands; smallest = λ y s r. l.smallest y s (sym (same y) ∙ r) }

pub lists_same : (u : ℕ) (ws vs : List ℕ) (t : Target) (xs : List ℕ) → ((y : ℕ) → refuted vs t y ≡ refuted ws t y) → ListsLeast u ws t xs → ListsLeast u vs t xs
lists_same u ws vs t xs same h = record { each = λ x l. least_same u ws vs t x same (h.each x l); every = λ x l. h.every x (least_same u vs ws t x (λ y. sym (same y)) l) }

-- one more of the first ones is the next old one that lacks the target
pub old_next : (t : Target) (old sets : List ℕ) (n i w : ℕ) → i < length old → w ≡ get_or old i w → has_target w t ≡ false → n < length sets → get_or sets n w ≡ w
    → ((v : ℕ) → Listed v (take n sets) → refuted old t v ≡ true) → (v : ℕ) → Listed v (take (n + 1) sets) → refuted old t v ≡ true
old_next t old sets n i w l is lacks m next before v h = elim (Listed-append_cases v (take n sets) (get_or sets n w ∷ []) (subst (Listed v) (take_more sets n w m) h)) as (λ _. refuted old t v ≡ true) [
  | inl g ↦ before v g
  | inr g ↦ last g
]
  where
    last : Listed v (get_or sets n w ∷ []) → refuted old t v ≡ true
    last (inl e) = subst (λ (u : ℕ). refuted old t u ≡ true) (sym (e ∙ next)) (refuted_itself old t w (subst (λ (u : ℕ). Listed u old) (sym is) (Listed-get_or old i w l)) lacks)
    last (inr e) = absurd e
