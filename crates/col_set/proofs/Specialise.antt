-- One more agree set: the candidates after it are got from those before it.
use Rattle.std.proofs.Common.{inl, inr, ◌≡◌, ◌⊎◌, ℕ, ◌^◌, ◌<◌, Bool, true, false, not, ◌&&◌, ◌||◌, eqb, refl, sym, ap, ◌∙◌, subst, List, [], ◌∷◌, ◌++◌, map, if◌then◌else◌}
use Rattle.std.specs.List.{filter, list_any}
use Rattle.std.proofs.lemmas.Bool.{and_parts, and_from, cases_eq, cases_Bool, true≢false, not-true, not_from_false, or_parts, or_from, false_from_ne_true, eqb-true, eq-eqb}
use Rattle.col_set.specs.declared.target.Target.{Target}
use Rattle.col_set.specs.declared.target.Target.TheVariants.{Col, RowId}
use Rattle.col_set.specs.ColSet.{has, with, subset, upto, all_sets}
use Rattle.col_set.specs.Target.{has_target, is_target}
use Rattle.col_set.specs.Minimal.{proper_subset, is_minimal}
use Rattle.col_set.specs.Evidence.{refuted, least, extensions, replaced, minimal_of}
use Rattle.col_set.specs.Members.{has-with}
use Rattle.col_set.specs.Lists.{Listed, filter_same, Listed-filter, Listed-filter_parts, Listed-map, Listed-map_which, Listed-flat_map, Listed-flat_map_which, list_any_at, list_any_which}
use Rattle.col_set.specs.Subsets.{IsSubset, IsSubset-trans, IsSubset-antisymm, IsSubset-with, with_subset, with_below, has-with_itself, has_within, subset-true, subset_below, proper_from, proper_parts, same_test}
use Rattle.col_set.specs.AllSets.{Listed-upto, Listed-upto_within}
use Rattle.col_set.proofs.Least.{IsLeast, Listed-least, IsLeast-listed, stands_above, lacks_inside, least_below}
use Rattle.col_set.proofs.Outside.{Outside, outside_of}

-- ---- what one more agree set refutes
pub refuted-push : (ws : List ℕ) (z : ℕ) (t : Target) (x : ℕ) → refuted (ws ++ z ∷ []) t x ≡ (refuted ws t x || (subset x z && not (has_target z t)))
unfolding refuted
refuted-push [] z t x = or_false _
  where
    or_false : (b : Bool) → (b || false) ≡ b
    or_false true = refl
    or_false false = refl
refuted-push (w ∷ ws) z t x = ap (λ b. (subset x w && not (has_target w t)) || b) (refuted-push ws z t x) ∙ or_assoc (subset x w && not (has_target w t)) _ _
  where
    or_assoc : (a b c : Bool) → (a || (b || c)) ≡ ((a || b) || c)
    or_assoc true b c = refl
    or_assoc false b c = refl

-- an agree set that has t refutes nothing
pub least-push_known : (n : ℕ) (ws : List ℕ) (t : Target) (z : ℕ) → has_target z t ≡ true → least n (ws ++ z ∷ []) t ≡ least n ws t
unfolding least
least-push_known n ws t z e = ap (λ (p : ℕ → Bool). filter (λ x. not (has_target x t) && is_minimal n p x) (all_sets n)) (λ i x. not ((refuted-push ws z t x ∙ ap (λ b. refuted ws t x || (subset x z && not b)) e ∙ none (refuted ws t x) (subset x z)) i))
  where
    none : (a b : Bool) → (a || (b && not true)) ≡ a
    none true b = refl
    none false true = refl
    none false false = refl

between : (x y m : ℕ) → IsSubset y x → IsSubset m y → m ≡ x → y ≡ x
between x y m i j e = IsSubset-antisymm i (subst (λ (v : ℕ). IsSubset v y) e j)

module _ (n : ℕ) (ws : List ℕ) (t : Target) (z : ℕ) (apart : has_target z t ≡ false) where
  stands_before : (x : ℕ) → refuted (ws ++ z ∷ []) t x ≡ false → (refuted ws t x ≡ false) × (subset x z ≡ false)
  stands_before x e = let w = or_parts (refuted ws t x) (subset x z && not (has_target z t)) (sym (refuted-push ws z t x) ∙ e) in
      (w.0, false_from_ne_true _ (λ h. true≢false (sym (and_from _ _ h (not_from_false _ apart)) ∙ w.1)))

  stands_after : (x : ℕ) → refuted ws t x ≡ false → subset x z ≡ false → refuted (ws ++ z ∷ []) t x ≡ false
  stands_after x e h = refuted-push ws z t x ∙ or_from _ _ e (ap (λ b. b && not (has_target z t)) h)

  -- each set that replaces a candidate has not t, and stands after z
  pub record Stands (x : ℕ) : Type 0 where
    pub below : x < 2 ^ n
    pub lacks : has_target x t ≡ false
    pub stands : refuted (ws ++ z ∷ []) t x ≡ false

  pub lacks_with : (t : Target) (x k : ℕ) → has_target x t ≡ false → is_target k t ≡ false → has_target (with x k) t ≡ false
  unfolding has_target is_target
  lacks_with (Col a) x k e g = has-with x k a ∙ or_from _ _ e (other (cases_Bool (eqb a k)))
    where
      other : ((eqb a k ≡ true) ⊎ (eqb a k ≡ false)) → eqb a k ≡ false
      other (inl h) = absurd (true≢false (sym (eq-eqb k a (sym (eqb-true a k h))) ∙ g))
      other (inr h) = h
  lacks_with RowId x k e g = refl

  not_target : (t : Target) (y k : ℕ) → has_target y t ≡ false → has y k ≡ true → is_target k t ≡ false
  unfolding has_target is_target
  not_target (Col a) y k e h = false_from_ne_true _ (λ g. true≢false (sym h ∙ ap (has y) (eqb-true k a g) ∙ e))
  not_target RowId y k e h = refl

  outside : (x k : ℕ) → has z k ≡ false → subset (with x k) z ≡ false
  outside x k e = false_from_ne_true _ (λ h. true≢false (sym ((subset-true h).each k (has-with_itself x k)) ∙ e))

  pub each_stands : (x : ℕ) → Listed x (replaced n t z (least n ws t)) → Stands x
  unfolding replaced extensions
  each_stands x h =
      let v = Listed-flat_map_which (λ x. if subset x z then extensions n t z x else x ∷ []) x (least n ws t) h in
      by v.0 (IsLeast-listed n ws t v.0 v.1) (subset v.0 z) refl v.2
    where
      by : (v : ℕ) → IsLeast n ws t v → (b : Bool) → subset v z ≡ b → Listed x (if b then extensions n t z v else v ∷ []) → Stands x
      by v l true e h =
          let w = Listed-map_which (with v) x (filter (λ k. not (has z k) && not (is_target k t)) (upto n)) h in
          let q = Listed-filter_parts (λ k. not (has z k) && not (is_target k t)) w.0 (upto n) w.1 in
          let r = and_parts (not (has z w.0)) (not (is_target w.0 t)) q.1 in
          subst Stands (sym w.2) (record {
            below = with_below v w.0 n l.below (Listed-upto_within n w.0 q.0);
            lacks = lacks_with t v w.0 l.lacks (not-true _ r.1);
            stands = stands_after (with v w.0) (stands_above ws t (IsSubset-with v w.0) l.stands) (outside v w.0 (not-true _ r.0));
          })
      by v l false e (inl i) = subst Stands (sym i) (record { below = l.below; lacks = l.lacks; stands = stands_after v l.stands e })
      by v l false e (inr h) = absurd h

  listed_of_least : (y : ℕ) → IsLeast n (ws ++ z ∷ []) t y → Listed y (replaced n t z (least n ws t))
  unfolding replaced extensions
  listed_of_least y l =
      let s = stands_before y l.stands in
      let m = least_below n ws t y l.below l.lacks s.0 in
      Listed-flat_map (λ x. if subset x z then extensions n t z x else x ∷ []) m.0 y (least n ws t) (Listed-least n ws t m.0 m.1) (by m.0 m.1 m.2 (outside_of n y z l.below s.1) (subset m.0 z) refl)
    where
      by : (x : ℕ) → IsLeast n ws t x → IsSubset x y → Outside y z → (b : Bool) → subset x z ≡ b → Listed y (if b then extensions n t z x else x ∷ [])
      by x m i o true e =
          let same : with x o.column ≡ y = l.smallest (with x o.column) (with_subset o.column i o.inside) (stands_after (with x o.column) (stands_above ws t (IsSubset-with x o.column) m.stands) (outside x o.column o.out)) in
          subst (λ (w : ℕ). Listed w (map (with x) (filter (λ k. not (has z k) && not (is_target k t)) (upto n)))) same
          (Listed-map (with x) o.column (filter (λ k. not (has z k) && not (is_target k t)) (upto n)) (Listed-filter (λ k. not (has z k) && not (is_target k t)) o.column (upto n) (Listed-upto n o.column (has_within y n o.column l.below o.inside))
          (and_from _ _ (not_from_false _ o.out) (not_from_false _ (not_target t y o.column l.lacks o.inside)))))
      by x m i o false e = inl (sym (l.smallest x i (stands_after x m.stands e)))

  -- The candidates after z: those inside z give way to their extensions with one column outside z and other than t, and what is not minimal is dropped.
  pub least-push : least n (ws ++ z ∷ []) t ≡ minimal_of n (replaced n t z (least n ws t))
  unfolding least minimal_of
  least-push = filter_same _ _ (all_sets n) (λ x h. same_test _ _
      (λ e. kept_of_least x (IsLeast-listed n (ws ++ z ∷ []) t x (Listed-filter _ x (all_sets n) h e)))
      (λ e. (Listed-filter_parts (λ x. not (has_target x t) && is_minimal n (λ y. not (refuted (ws ++ z ∷ []) t y)) x) x (all_sets n) (Listed-least n (ws ++ z ∷ []) t x (least_of_kept x e))).1))
    where
      kept_of_least : (x : ℕ) → IsLeast n (ws ++ z ∷ []) t x
          → (list_any (λ y. eqb y x) (replaced n t z (least n ws t)) && not (list_any (λ y. proper_subset y x) (replaced n t z (least n ws t)))) ≡ true
      kept_of_least x l = and_from _ _ (list_any_at (λ y. eqb y x) x (replaced n t z (least n ws t)) (listed_of_least x l) (eq-eqb x x refl))
          (not_from_false _ (false_from_ne_true _ (λ e.
          let w = list_any_which (λ y. proper_subset y x) (replaced n t z (least n ws t)) e in
          let q = proper_parts w.2 in
          q.1 (l.smallest w.0 q.0 (each_stands w.0 w.1).stands))))

      only : (x m : ℕ) → IsSubset m x → Listed m (replaced n t z (least n ws t)) → list_any (λ y. proper_subset y x) (replaced n t z (least n ws t)) ≡ false → m ≡ x
      only x m i h none = elim (cases_eq m x) as (λ _. m ≡ x) [ inl e ↦ e | inr ne ↦ absurd (true≢false (sym (list_any_at (λ y. proper_subset y x) m _ h (proper_from i ne)) ∙ none)) ]

      least_of_kept : (x : ℕ) → (list_any (λ y. eqb y x) (replaced n t z (least n ws t)) && not (list_any (λ y. proper_subset y x) (replaced n t z (least n ws t)))) ≡ true → IsLeast n (ws ++ z ∷ []) t x
      least_of_kept x e =
          let q = and_parts (list_any (λ y. eqb y x) (replaced n t z (least n ws t))) _ e in
          let w = list_any_which (λ y. eqb y x) (replaced n t z (least n ws t)) q.0 in
          let s : Stands x = subst Stands (eqb-true w.0 x w.2) (each_stands w.0 w.1) in
          record {
            below = s.below;
            lacks = s.lacks;
            stands = s.stands;
            smallest = λ y i g.
                let m = least_below n (ws ++ z ∷ []) t y (subset_below n i s.below) (lacks_inside t i s.lacks) g in
                let same : m.0 ≡ x = only x m.0 (IsSubset-trans {x = m.0} {y = y} {z = x} m.2 i) (listed_of_least m.0 m.1) (not-true _ q.1) in
                between x y m.0 i m.2 same;
          }
