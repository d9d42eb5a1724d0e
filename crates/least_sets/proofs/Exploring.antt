-- What is found inside withdrawn agree sets, from one to the next.
use Rattle.std.proofs.Common.{inl, inr, ◌≡◌, ◌⊎◌, ℕ, ◌+◌, ◌^◌, ◌<◌, ◌≤◌, Bool, true, false, not, ◌&&◌, ◌||◌, refl, sym, ap, ◌∙◌, subst, List, [], ◌∷◌, ◌++◌, length, get_or, take}
use Rattle.std.specs.List.{All}
use Rattle.std.proofs.lemmas.Bool.{true≢false, false≢true, and_parts, and_from, or_cases, or_left, or_right, not_from_false}
use Rattle.std.proofs.lemmas.List.{take_more, take_all}
use Rattle.std.proofs.lemmas.List.Folds.{list_any_at}
use Rattle.col_set.specs.declared.target.Target.{Target}
use Rattle.col_set.specs.ColSet.{IsSubset, has, inter, subset}
use Rattle.col_set.specs.Target.{has_target}
use Rattle.col_set.specs.Evidence.{refuted}
use Rattle.col_set.specs.Members.{has-inter}
use Rattle.col_set.specs.Subsets.{IsSubset-trans, subset-true, true-subset, subset_below}
use Rattle.col_set.specs.Lists.{Listed, Listed-append_left, Listed-append_right, Listed-append_cases}
use Rattle.col_set.proofs.Least.{refuted_inside}
use Rattle.least_sets.specs.Growth.{IsLeastAmong, ListsLeast, IsExplored}
use Rattle.col_set.proofs.Specialise.{refuted-push}
use Rattle.least_sets.proofs.Evidence.{refuted-push_known}

-- ---- the least sets among some columns
-- with no agree set the empty set is the one
pub nothing_refuted : (t : Target) (x : ℕ) → refuted [] t x ≡ false
unfolding refuted
nothing_refuted t x = refl

-- inside a refuted set there is none
pub lists_none : (u : ℕ) (ws : List ℕ) (t : Target) (xs : List ℕ) → xs ≡ [] → refuted ws t u ≡ true → ListsLeast u ws t xs
lists_none u ws t xs e r = record {
  each = λ x h. absurd (subst (Listed x) e h);
  every = λ x i. absurd (true≢false (sym (refuted_inside ws t i.within r) ∙ i.stands));
}

-- ---- refuted or not, from one agree set to the next
pub refuted_more : (ws : List ℕ) (t : Target) (x : ℕ) (i w : ℕ) → i < length ws → w ≡ get_or ws i w → refuted (take (i + 1) ws) t x ≡ (refuted (take i ws) t x || (subset x w && not (has_target w t)))
refuted_more ws t x i w l is = ap (λ vs. refuted vs t x) (take_more ws i w l ∙ ap (λ (y : ℕ). take i ws ++ y ∷ []) (sym is)) ∙ refuted-push (take i ws) w t x

or_same : (a b : Bool) → a ≡ false → b ≡ false → (a || b) ≡ false
or_same false b e f = f
or_same true b e f = absurd (true≢false e)

pub still_stands : (ws : List ℕ) (t : Target) (x : ℕ) (i w : ℕ) → i < length ws → w ≡ get_or ws i w → (subset x w && not (has_target w t)) ≡ false → refuted (take i ws) t x ≡ false → refuted (take (i + 1) ws) t x ≡ false
still_stands ws t x i w l is e none = refuted_more ws t x i w l is ∙ or_same _ _ none e

pub is_told : (ws : List ℕ) (t : Target) (x : ℕ) (i w : ℕ) → i < length ws → w ≡ get_or ws i w → (subset x w && not (has_target w t)) ≡ true → true ≡ refuted ws t x
unfolding refuted
is_told ws t x i w l is e = sym (list_any_at (λ w. subset x w && not (has_target w t)) ws i w l (ap (λ v. subset x v && not (has_target v t)) (sym is) ∙ e))

pub all_stand : (ws : List ℕ) (t : Target) (x : ℕ) (i : ℕ) → length ws ≤ i → refuted (take i ws) t x ≡ false → false ≡ refuted ws t x
all_stand ws t x i l e = sym e ∙ ap (λ vs. refuted vs t x) (take_all i ws l)

-- ---- what was explored
-- the sets found so far, and the withdrawn sets explored, which refute as much as all so far
pub record HasExplored (u : ℕ) (rest gone : List ℕ) (t : Target) (tops xs : List ℕ) : Type 0 where
  pub found : IsExplored u rest gone t xs
  pub tops_are : (x : ℕ) → refuted gone t x ≡ refuted tops t x

pub explored_none : (u : ℕ) (rest : List ℕ) (t : Target) (tops xs : List ℕ) → tops ≡ [] → xs ≡ [] → HasExplored u rest [] t tops xs
explored_none u rest t tops xs e f = record {
  found = record { each = λ x h. absurd (subst (Listed x) f h); every = λ x i r. absurd (true≢false (sym r ∙ nothing_refuted t x)) };
  tops_are = λ x. ap (λ vs. refuted vs t x) (sym e);
}

inter_left : (u w : ℕ) → IsSubset (inter u w) u
inter_left u w = record { each = λ k h. (and_parts (has u k) (has w k) (sym (has-inter u w k) ∙ h)).0 }

inter_right : (u w : ℕ) → IsSubset (inter u w) w
inter_right u w = record { each = λ k h. (and_parts (has u k) (has w k) (sym (has-inter u w k) ∙ h)).1 }

pub inter_few : (n u w : ℕ) → u < 2 ^ n → inter u w < 2 ^ n
inter_few n u w l = subset_below n (inter_left u w) l

into_inter : (u w x : ℕ) → IsSubset x u → IsSubset x w → IsSubset x (inter u w)
into_inter u w x s r = record { each = λ k h. has-inter u w k ∙ and_from _ _ (s.each k h) (r.each k h) }

module _ (u : ℕ) (rest gone : List ℕ) (t : Target) (tops xs : List ℕ) (h : HasExplored u rest gone t tops xs) (w : ℕ) where
  -- a withdrawn set that refutes no more is passed over
  explored_same : ((x : ℕ) → refuted (gone ++ w ∷ []) t x ≡ refuted gone t x) → HasExplored u rest (gone ++ w ∷ []) t tops xs
  explored_same same = record {
    found = record { each = λ x l. let i = h.found.each x l in (i.0, same x ∙ i.1); every = λ x i r. h.found.every x i (sym (same x) ∙ r) };
    tops_are = λ x. same x ∙ h.tops_are x;
  }

  pub explored_known : has_target w t ≡ true → HasExplored u rest (gone ++ w ∷ []) t tops xs
  explored_known e = explored_same (refuted-push_known gone w t e)

  pub explored_inside : refuted tops t w ≡ true → HasExplored u rest (gone ++ w ∷ []) t tops xs
  explored_inside e = explored_same (λ x. refuted-push gone w t x ∙ by x (refuted gone t x) (subset x w) (has_target w t) refl refl)
    where
      by : (x : ℕ) (a b c : Bool) → refuted gone t x ≡ a → subset x w ≡ b → (a || (b && not c)) ≡ a
      by x true b c i j = refl
      by x false false c i j = refl
      by x false true c i j = absurd (true≢false (sym (refuted_inside tops t (subset-true j) e) ∙ sym (h.tops_are x) ∙ i))

  pub explored_more : has_target w t ≡ false → (found : List ℕ) → ListsLeast (inter u w) rest t found → HasExplored u rest (gone ++ w ∷ []) t (tops ++ w ∷ []) (xs ++ found)
  explored_more apart found l = record {
    found = record {
      each = λ x g. each x (Listed-append_cases x xs found g);
      every = λ x i r. every x i (or_cases (refuted gone t x) _ (sym (refuted-push gone w t x) ∙ r));
    };
    tops_are = λ x. refuted-push gone w t x ∙ ap (λ b. b || (subset x w && not (has_target w t))) (h.tops_are x) ∙ sym (refuted-push tops w t x);
  }
    where
      each : (x : ℕ) → Listed x xs ⊎ Listed x found → IsLeastAmong u rest t x × (refuted (gone ++ w ∷ []) t x ≡ true)
      each x (inl g) = let i = h.found.each x g in (i.0, refuted-push gone w t x ∙ or_left _ _ i.1)
      each x (inr g) =
          let i = l.each x g in (
            record { within = IsSubset-trans i.within (inter_left u w); stands = i.stands; smallest = i.smallest },
            refuted-push gone w t x ∙ or_right _ _ (and_from _ _ (true-subset (IsSubset-trans i.within (inter_right u w))) (not_from_false _ apart)),
          )

      every : (x : ℕ) → IsLeastAmong u rest t x → (refuted gone t x ≡ true) ⊎ ((subset x w && not (has_target w t)) ≡ true) → Listed x (xs ++ found)
      every x i (inl r) = Listed-append_left x xs found (h.found.every x i r)
      every x i (inr r) = Listed-append_right x xs found (l.every x (record { within = into_inter u w x i.within (subset-true (and_parts (subset x w) _ r).0); stands = i.stands; smallest = i.smallest }))

-- the test whether a withdrawn set is explored
pub explored_pass : (u : ℕ) (rest gone : List ℕ) (t : Target) (tops xs : List ℕ) (h : HasExplored u rest gone t tops xs) (w : ℕ) → (not (has_target w t) && not (refuted tops t w)) ≡ false → HasExplored u rest (gone ++ w ∷ []) t tops xs
explored_pass u rest gone t tops xs h w e = by (has_target w t) (refuted tops t w) refl refl e
  where
    by : (a b : Bool) → has_target w t ≡ a → refuted tops t w ≡ b → (not a && not b) ≡ false → HasExplored u rest (gone ++ w ∷ []) t tops xs
    by true b i j e = explored_known u rest gone t tops xs h w i
    by false true i j e = explored_inside u rest gone t tops xs h w j
    by false false i j e = absurd (true≢false e)

pub lacks_of : (a b : Bool) → (not a && not b) ≡ true → a ≡ false
lacks_of false b e = refl
lacks_of true b e = absurd (false≢true e)

-- where all withdrawn sets have the target
pub item_has : (gone : List ℕ) (t : Target) (i w : ℕ) → i < length gone → w ≡ get_or gone i w → All (λ w. has_target w t ≡ true) gone → has_target w t ≡ true
item_has gone t i w l is h = ap (λ v. has_target v t) is ∙ h i w l

pub explored_next : (u : ℕ) (rest gone : List ℕ) (t : Target) (tops xs : List ℕ) (i w : ℕ) → i < length gone → w ≡ get_or gone i w → HasExplored u rest (take i gone ++ w ∷ []) t tops xs → HasExplored u rest (take (i + 1) gone) t tops xs
explored_next u rest gone t tops xs i w l is h = subst (λ vs. HasExplored u rest vs t tops xs) (sym (take_more gone i w l ∙ ap (λ (y : ℕ). take i gone ++ y ∷ []) (sym is))) h

pub explored_all : (u : ℕ) (rest gone : List ℕ) (t : Target) (tops xs : List ℕ) (i : ℕ) → length gone ≤ i → HasExplored u rest (take i gone) t tops xs → IsExplored u rest gone t xs
explored_all u rest gone t tops xs i l h = subst (λ vs. IsExplored u rest vs t xs) (take_all i gone l) h.found

pub explored_as : (u : ℕ) (rest gone : List ℕ) (t : Target) (tops xs tops' xs' : List ℕ) → tops' ≡ tops → xs' ≡ xs → HasExplored u rest gone t tops xs → HasExplored u rest gone t tops' xs'
explored_as u rest gone t tops xs tops' xs' e f h = subst (λ vs. HasExplored u rest gone t vs xs') (sym e) (subst (HasExplored u rest gone t tops) (sym f) h)
