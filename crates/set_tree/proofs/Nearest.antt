-- The nearest of some pairs in any order is the first of them in report order.
use Rattle.std.proofs.Common.{inl, inr, ◌≡◌, ◌⊎◌, ℕ, ◌&&◌, Bool, true, false, cond, refl, sym, ap, ap₂, ◌∙◌, List, [], ◌∷◌, Option, Some, None, Ordering, Less, Equal, Greater, if◌then◌else◌}
use Rattle.std.specs.List.{find}
use Rattle.std.specs.Ordering.{is_lt, ordering_reverse}
use Rattle.std.proofs.lemmas.Option.{none-some}
use Rattle.std.proofs.lemmas.Bool.{true≢false, and_parts}
use Rattle.col_set.specs.ColSet.{report_cmp}
use Rattle.col_set.specs.Columns.{report_total}
use Rattle.col_set.specs.AllSets.{report_cmp-same}
use Rattle.col_set.specs.Lists.{Listed}
use Rattle.col_set.proofs.Places.{Contains-listed, Listed-contained}
use Rattle.set_tree.specs.Pairs.{IsInOrder, AreThose}
use Rattle.set_tree.specs.Walks.{nearer, joined}
use Rattle.set_tree.proofs.Listing.{find_some, find_none, less_not_same}
use Rattle.set_tree.proofs.Growing.{some-injective}

greater_is : (x y : ℕ) → report_cmp x y ≡ Greater → report_cmp y x ≡ Less
greater_is x y e = report_total.antisymm y x ∙ ap ordering_reverse e

-- what does not stand before r stands before nothing that r does not
not_before : (x r b : ℕ) → is_lt (report_cmp x r) ≡ false → report_cmp x b ≡ Less → report_cmp r b ≡ Less
not_before x r b n l = by (report_cmp r x) refl
  where
    by : (o : Ordering) → report_cmp r x ≡ o → report_cmp r b ≡ Less
    by Less e = report_total.trans r x b e l
    by Equal e = ap (λ z. report_cmp z b) (report_cmp-same r x e) ∙ l
    by Greater e = absurd (true≢false (sym (ap is_lt (greater_is r x e)) ∙ n))

not_self : (x : ℕ) → is_lt (report_cmp x x) ≡ false
not_self x = by (report_cmp x x) refl
  where
    by : (o : Ordering) → report_cmp x x ≡ o → is_lt (report_cmp x x) ≡ false
    by Less e = absurd (less_not_same x x e refl)
    by Equal e = ap is_lt e
    by Greater e = ap is_lt e

module _ {V : Type 0} (p : ℕ × V → Bool) where
  -- ---- one step
  step_from : (best : Option (ℕ × V)) (q b : ℕ × V) → nearer p best q ≡ Some b → (best ≡ Some b) ⊎ ((b ≡ q) × (p q ≡ true))
  step_from None q b e = by (p q) refl e
    where
      by : (c : Bool) → p q ≡ c → (if c then Some q else None) ≡ Some b → (None ≡ Some b) ⊎ ((b ≡ q) × (p q ≡ true))
      by true i e = inr (sym (some-injective q b e), i)
      by false i e = absurd (none-some b e)
  step_from (Some a) q b e = by (is_lt (report_cmp q.0 a.0) && p q) refl e
    where
      by : (c : Bool) → (is_lt (report_cmp q.0 a.0) && p q) ≡ c → (if c then Some q else Some a) ≡ Some b → (Some a ≡ Some b) ⊎ ((b ≡ q) × (p q ≡ true))
      by true i e = inr (sym (some-injective q b e), (and_parts (is_lt (report_cmp q.0 a.0)) (p q) i).1)
      by false i e = inl e

  -- the step answers none that x stands before
  record Answers (n : Option (ℕ × V)) (x : ℕ × V) : Type 0 where
    pub found : ℕ × V
    pub is : n ≡ Some found
    pub least : is_lt (report_cmp x.0 found.0) ≡ false

  step_least : (best : Option (ℕ × V)) (q x : ℕ × V) → (best ≡ Some x) ⊎ ((x ≡ q) × (p q ≡ true)) → Answers (nearer p best q) x
  step_least None q x (inl e) = absurd (none-some x e)
  step_least None q x (inr e) = record { found = q; is = ap (λ (c : Bool). if c then Some q else None) e.1; least = ap (λ (y : ℕ × V). is_lt (report_cmp y.0 q.0)) e.0 ∙ not_self q.0 }
  step_least (Some a) q x h = by (is_lt (report_cmp q.0 a.0)) refl (p q) refl h
    where
      by : (c : Bool) → is_lt (report_cmp q.0 a.0) ≡ c → (d : Bool) → p q ≡ d → (Some a ≡ Some x) ⊎ ((x ≡ q) × (p q ≡ true)) → Answers (if is_lt (report_cmp q.0 a.0) && p q then Some q else Some a) x
      by true i true j (inl e) = record { found = q; is = ap₂ (λ (c d : Bool). if c && d then Some q else Some a) i j; least = ap (λ (y : ℕ × V). is_lt (report_cmp y.0 q.0)) (sym (some-injective a x e)) ∙ after (report_cmp q.0 a.0) refl }
        where
          after : (o : Ordering) → report_cmp q.0 a.0 ≡ o → is_lt (report_cmp a.0 q.0) ≡ false
          after Less k = ap is_lt (report_total.antisymm a.0 q.0 ∙ ap ordering_reverse k)
          after Equal k = absurd (true≢false (sym i ∙ ap is_lt k))
          after Greater k = absurd (true≢false (sym i ∙ ap is_lt k))
      by true i true j (inr e) = record { found = q; is = ap₂ (λ (c d : Bool). if c && d then Some q else Some a) i j; least = ap (λ (y : ℕ × V). is_lt (report_cmp y.0 q.0)) e.0 ∙ not_self q.0 }
      by true i false j (inl e) = record { found = a; is = ap₂ (λ (c d : Bool). if c && d then Some q else Some a) i j; least = ap (λ (y : ℕ × V). is_lt (report_cmp y.0 a.0)) (sym (some-injective a x e)) ∙ not_self a.0 }
      by true i false j (inr e) = absurd (true≢false (sym e.1 ∙ j))
      by false i d j (inl e) = record { found = a; is = ap (λ (c : Bool). if c && p q then Some q else Some a) i; least = ap (λ (y : ℕ × V). is_lt (report_cmp y.0 a.0)) (sym (some-injective a x e)) ∙ not_self a.0 }
      by false i d j (inr e) = record { found = a; is = ap (λ (c : Bool). if c && p q then Some q else Some a) i; least = ap (λ (y : ℕ × V). is_lt (report_cmp y.0 a.0)) e.0 ∙ i }

  step_none : (best : Option (ℕ × V)) (q : ℕ × V) → nearer p best q ≡ None → (best ≡ None) × (p q ≡ false)
  step_none None q e = (refl, by (p q) e)
    where
      by : (c : Bool) → ◌≡◌ {A = Option (ℕ × V)} (if c then Some q else None) None → c ≡ false
      by true e = absurd (none-some q (sym e))
      by false e = refl
  step_none (Some a) q e = absurd (by (is_lt (report_cmp q.0 a.0) && p q) e)
    where
      by : (c : Bool) → ◌≡◌ {A = Option (ℕ × V)} (if c then Some q else Some a) None → ⊥
      by true e = none-some q (sym e)
      by false e = none-some a (sym e)

  -- ---- all steps
  nearest_from : (best : Option (ℕ × V)) (qs : List (ℕ × V)) (b : ℕ × V) → joined (nearer p) best qs ≡ Some b → (best ≡ Some b) ⊎ (Listed b qs × (p b ≡ true))
  unfolding joined
  nearest_from best [] b e = inl e
  nearest_from best (q ∷ qs) b e = elim (nearest_from (nearer p best q) qs b e) as (λ _. (best ≡ Some b) ⊎ (Listed b (q ∷ qs) × (p b ≡ true))) [
    | inr h ↦ inr (inr h.0, h.1)
    | inl h ↦ elim (step_from best q b h) as (λ _. (best ≡ Some b) ⊎ (Listed b (q ∷ qs) × (p b ≡ true))) [ inl g ↦ inl g | inr g ↦ inr (inl g.0, ap p g.0 ∙ g.1) ]
  ]

  nearest_least : (best : Option (ℕ × V)) (qs : List (ℕ × V)) (b x : ℕ × V) → joined (nearer p) best qs ≡ Some b → (best ≡ Some x) ⊎ (Listed x qs × (p x ≡ true)) → report_cmp x.0 b.0 ≡ Less → ⊥
  unfolding joined
  nearest_least best [] b x e (inl h) l = less_not_same x.0 b.0 l (ap (λ (y : ℕ × V). y.0) (some-injective x b (sym h ∙ e)))
  nearest_least best [] b x e (inr h) l = absurd h.0
  nearest_least best (q ∷ qs) b x e h l = by h (λ r g m. nearest_least (nearer p best q) qs b r e g m)
    where
      through : (best ≡ Some x) ⊎ ((x ≡ q) × (p q ≡ true)) → ((r : ℕ × V) → (nearer p best q ≡ Some r) ⊎ (Listed r qs × (p r ≡ true)) → report_cmp r.0 b.0 ≡ Less → ⊥) → ⊥
      through g rest = let s = step_least best q x g in rest s.found (inl s.is) (not_before x.0 s.found.0 b.0 s.least l)

      by : (best ≡ Some x) ⊎ (Listed x (q ∷ qs) × (p x ≡ true)) → ((r : ℕ × V) → (nearer p best q ≡ Some r) ⊎ (Listed r qs × (p r ≡ true)) → report_cmp r.0 b.0 ≡ Less → ⊥) → ⊥
      by (inl g) rest = through (inl g) rest
      by (inr (inl i, g)) rest = through (inr (i, sym (ap p i) ∙ g)) rest
      by (inr (inr i, g)) rest = rest x (inr (i, g)) l

  nearest_none : (best : Option (ℕ × V)) (qs : List (ℕ × V)) → joined (nearer p) best qs ≡ None → (best ≡ None) × ((q : ℕ × V) → Listed q qs → p q ≡ false)
  unfolding joined
  nearest_none best [] e = (e, λ q h. absurd h)
  nearest_none best (q ∷ qs) e =
      let rest = nearest_none (nearer p best q) qs e in
      let s = step_none best q rest.0 in
      (s.0, λ x h. elim h as (λ _. p x ≡ false) [ inl i ↦ ap p i ∙ s.1 | inr g ↦ rest.1 x g ])

  -- ---- the first of a list in order
  find_first : (ps : List (ℕ × V)) (a b : ℕ × V) → IsInOrder ps → find p ps ≡ Some b → Listed a ps → p a ≡ true → (a ≡ b) ⊎ (report_cmp b.0 a.0 ≡ Less)
  find_first [] a b o e h i = absurd h
  find_first (q ∷ ps) a b o e h i = by (p q) refl e h (λ f g. find_first ps a b o.1 f g i)
    where
      by : (c : Bool) → p q ≡ c → cond c (Some q) (find p ps) ≡ Some b → Listed a (q ∷ ps) → (find p ps ≡ Some b → Listed a ps → (a ≡ b) ⊎ (report_cmp b.0 a.0 ≡ Less)) → (a ≡ b) ⊎ (report_cmp b.0 a.0 ≡ Less)
      by true j f (inl k) rest = inl (k ∙ some-injective q b f)
      by true j f (inr k) rest = inr (ap (λ (y : ℕ × V). report_cmp y.0 a.0) (sym (some-injective q b f)) ∙ o.0 a k)
      by false j f (inl k) rest = absurd (true≢false (sym i ∙ ap p k ∙ j))
      by false j f (inr k) rest = rest f k

  pub nearest_found : (ps qs : List (ℕ × V)) → IsInOrder ps → AreThose ps qs → joined (nearer p) None qs ≡ find p ps
  nearest_found ps qs o those = by (joined (nearer p) None qs) refl (find p ps) refl
    where
      there : (q : ℕ × V) → Listed q qs → Listed q ps
      there q h = Listed-contained q ps (those.only q (Contains-listed q qs h))

      back : (q : ℕ × V) → Listed q ps → Listed q qs
      back q h = Listed-contained q qs (those.every q (Contains-listed q ps h))

      own : (b : ℕ × V) → joined (nearer p) None qs ≡ Some b → Listed b qs × (p b ≡ true)
      own b e = elim (nearest_from None qs b e) as (λ _. Listed b qs × (p b ≡ true)) [ inl h ↦ absurd (none-some b h) | inr h ↦ h ]

      by : (r : Option (ℕ × V)) → joined (nearer p) None qs ≡ r → (f : Option (ℕ × V)) → find p ps ≡ f → r ≡ f
      by None e None g = refl
      by None e (Some b) g = absurd (let w = find_some p ps b g in true≢false (sym w.1 ∙ (nearest_none None qs e).1 b (back b w.0)))
      by (Some a) e None g = absurd (let w = own a e in true≢false (sym w.1 ∙ find_none p ps g a (there a w.0)))
      by (Some a) e (Some b) g =
          let w = own a e in
          let v = find_some p ps b g in
          elim (find_first ps a b o g (there a w.0) w.1) as (λ _. Some a ≡ Some b) [
            | inl i ↦ ap (λ (y : ℕ × V). Some y) i
            | inr l ↦ absurd (nearest_least None qs a b e (inr (back b v.0, v.1)) l)
          ]
