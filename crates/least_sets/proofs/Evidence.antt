-- What one more agree set refutes, what a part of a list refutes, and the least sets among some columns.
use Rattle.std.proofs.Common.{◌≡◌, ℕ, ◌^◌, ◌<◌, Bool, true, false, not, ◌&&◌, ◌||◌, refl, sym, ap, ◌∙◌, List, [], ◌∷◌, ◌++◌}
use Rattle.std.proofs.lemmas.List.Folds.{list_any-append}
use Rattle.std.proofs.lemmas.Bool.{and_parts, and_from, true≢false, not-true, not_from_false, or_parts, or_from, false_from_ne_true, eq-eqb, ne_eqb, lt-ltb, ltb-true}
use Rattle.col_set.specs.declared.target.Target.{Target}
use Rattle.col_set.specs.declared.target.Target.TheVariants.{Col, RowId}
use Rattle.col_set.specs.ColSet.{IsSubset, has, all, subset}
use Rattle.col_set.specs.Target.{has_target}
use Rattle.col_set.specs.Evidence.{IsLeast, refuted, least}
use Rattle.col_set.specs.Members.{has-all, has-without}
use Rattle.col_set.specs.Subsets.{IsSubset-trans, has_within, below_from}
use Rattle.col_set.proofs.Minimal.{minimal_below}
use Rattle.col_set.proofs.Least.{Listed-least, IsLeast-listed}
use Rattle.col_set.proofs.Specialise.{refuted-push}
use Rattle.least_sets.specs.Growth.{choices, IsLeastAmong, ListsLeast}

-- ---- one more agree set
module _ (ws : List ℕ) (t : Target) (z : ℕ) (apart : has_target z t ≡ false) where
  pub stands_before : (x : ℕ) → refuted (ws ++ z ∷ []) t x ≡ false → (refuted ws t x ≡ false) × (subset x z ≡ false)
  stands_before x e = let w = or_parts (refuted ws t x) (subset x z && not (has_target z t)) (sym (refuted-push ws z t x) ∙ e) in
      (w.0, false_from_ne_true _ (λ h. true≢false (sym (and_from _ _ h (not_from_false _ apart)) ∙ w.1)))

  pub stands_after : (x : ℕ) → refuted ws t x ≡ false → subset x z ≡ false → refuted (ws ++ z ∷ []) t x ≡ false
  stands_after x e h = refuted-push ws z t x ∙ or_from _ _ e (ap (λ b. b && not (has_target z t)) h)

-- an agree set that has the target refutes nothing
pub refuted-push_known : (ws : List ℕ) (z : ℕ) (t : Target) → has_target z t ≡ true → (x : ℕ) → refuted (ws ++ z ∷ []) t x ≡ refuted ws t x
refuted-push_known ws z t e x = refuted-push ws z t x ∙ ap (λ b. refuted ws t x || (subset x z && not b)) e ∙ none (refuted ws t x) (subset x z)
  where
    none : (a b : Bool) → (a || (b && not true)) ≡ a
    none true b = refl
    none false true = refl
    none false false = refl

-- ---- a part of a list
pub refuted-append : (rest gone : List ℕ) (t : Target) (x : ℕ) → refuted (rest ++ gone) t x ≡ (refuted rest t x || refuted gone t x)
unfolding refuted
refuted-append rest gone t x = list_any-append (λ w. subset x w && not (has_target w t)) rest gone

pub stands_left : (rest gone : List ℕ) (t : Target) (x : ℕ) → refuted (rest ++ gone) t x ≡ false → refuted rest t x ≡ false
stands_left rest gone t x e = (or_parts _ _ (sym (refuted-append rest gone t x) ∙ e)).0

pub stands_right : (rest gone : List ℕ) (t : Target) (x : ℕ) → refuted (rest ++ gone) t x ≡ false → refuted gone t x ≡ false
stands_right rest gone t x e = (or_parts _ _ (sym (refuted-append rest gone t x) ∙ e)).1

pub stands_both : (rest gone : List ℕ) (t : Target) (x : ℕ) → refuted rest t x ≡ false → refuted gone t x ≡ false → refuted (rest ++ gone) t x ≡ false
stands_both rest gone t x e f = refuted-append rest gone t x ∙ or_from _ _ e f

-- ---- the least sets among some columns
module _ (u : ℕ) (ws : List ℕ) (t : Target) where
  pub record HasLeast (x : ℕ) : Type 0 where
    pub set : ℕ
    pub inside : IsSubset set x
    pub least : IsLeastAmong u ws t set

  -- below each set that stands there is a least one
  pub least_under : (x : ℕ) → IsSubset x u → refuted ws t x ≡ false → HasLeast x
  least_under x s e =
      let m = minimal_below (λ y. not (refuted ws t y)) x (not_from_false _ e) in
      record {
        set = m.set;
        inside = m.inside;
        least = record {
          within = IsSubset-trans m.inside s;
          stands = not-true _ m.minimal.passes;
          smallest = λ y i g. m.minimal.smallest y i (not_from_false _ g);
        };
      }

-- the same agree sets but for one that has the target
pub lists_known : (u : ℕ) (ws : List ℕ) (t : Target) (z : ℕ) (xs : List ℕ) → has_target z t ≡ true → ListsLeast u ws t xs → ListsLeast u (ws ++ z ∷ []) t xs
lists_known u ws t z xs e l = record {
  each = λ x h. let i = l.each x h in record {
    within = i.within;
    stands = same x ∙ i.stands;
    smallest = λ y s g. i.smallest y s (sym (same y) ∙ g);
  };
  every = λ x i. l.every x (record {
    within = i.within;
    stands = sym (same x) ∙ i.stands;
    smallest = λ y s g. i.smallest y s (same y ∙ g);
  });
}
  where
    same : (x : ℕ) → refuted (ws ++ z ∷ []) t x ≡ refuted ws t x
    same = refuted-push_known ws z t e

-- ---- the columns but the target
pub choice_parts : (n : ℕ) (t : Target) (x : ℕ) → IsSubset x (choices n t) → (x < 2 ^ n) × (has_target x t ≡ false)
unfolding has_target
choice_parts n (Col a) x s = (below_from x n (λ k h. below k (s.each k h)), false_from_ne_true _ (λ h. true≢false (sym (and_parts (has (all n) a) _ (sym (has-without (all n) a a) ∙ s.each a h)).1 ∙ ap not (eq-eqb a a refl))))
  where
    below : (k : ℕ) → has (choices n (Col a)) k ≡ true → k < n
    below k h = ltb-true k n (sym (has-all n k) ∙ (and_parts (has (all n) k) _ (sym (has-without (all n) a k) ∙ h)).0)
choice_parts n RowId x s = (below_from x n (λ k h. ltb-true k n (sym (has-all n k) ∙ s.each k h)), refl)

pub choice_from : (n : ℕ) (t : Target) (x : ℕ) → x < 2 ^ n → has_target x t ≡ false → IsSubset x (choices n t)
unfolding has_target
choice_from n (Col a) x b e = record { each = λ k h. has-without (all n) a k ∙ and_from _ _ (has-all n k ∙ lt-ltb k n (has_within x n k b h)) (ap not (ne_eqb k a (λ i. true≢false (sym h ∙ ap (has x) i ∙ e)))) }
choice_from n RowId x b e = record { each = λ k h. has-all n k ∙ lt-ltb k n (has_within x n k b h) }

pub among_from : (n : ℕ) (ws : List ℕ) (t : Target) (x : ℕ) → IsLeast n ws t x → IsLeastAmong (choices n t) ws t x
among_from n ws t x l = record { within = choice_from n t x l.below l.lacks; stands = l.stands; smallest = l.smallest }

pub least_from : (n : ℕ) (ws : List ℕ) (t : Target) (x : ℕ) → IsLeastAmong (choices n t) ws t x → IsLeast n ws t x
least_from n ws t x l = let p = choice_parts n t x l.within in record { below = p.0; lacks = p.1; stands = l.stands; smallest = l.smallest }

pub lists_least : (n : ℕ) (ws : List ℕ) (t : Target) → ListsLeast (choices n t) ws t (least n ws t)
lists_least n ws t = record { each = λ x h. among_from n ws t x (IsLeast-listed n ws t x h); every = λ x l. Listed-least n ws t x (least_from n ws t x l) }
