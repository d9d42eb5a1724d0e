-- A snapshot that shows a row state has its live numbers and agree sets.
use Rattle.std.proofs.Common.{inl, inr, ◌≡◌, ◌≢◌, ◌⊎◌, ℕ, zero, suc, ◌+◌, ◌-◌, ◌<◌, ◌≤◌, eqb, ltb, true, refl, sym, ap, ap₂, ◌∙◌, subst, arith, List, [], ◌∷◌, length, map}
use Rattle.std.specs.List.{filter, range_with_len, Contains}
use Rattle.std.proofs.lemmas.Bool.{eqb-true, eq-eqb, cases_eq, ltb-true, lt-ltb}
use Rattle.std.proofs.lemmas.List.Elements.{filter_agree}
use Rattle.std.proofs.lemmas.Cmp.{nat_cmp_total}
use Rattle.col_set.specs.declared.target.Target.{Target}
use Rattle.col_set.specs.ColSet.{IsSubset, set_of, upto}
use Rattle.col_set.specs.Target.{has_target}
use Rattle.col_set.specs.Lists.{Listed, Listed-filter, Listed-filter_parts, Listed-map, Listed-map_which}
use Rattle.col_set.specs.Subsets.{same_test}
use Rattle.col_set.specs.Members.{same_set}
use Rattle.col_set.specs.AllSets.{Ascends, Ascends-range, Ascends_within, set_of-has, has-set_of, Listed-upto, Listed-upto_within}
use Rattle.col_set.proofs.Places.{Climbs, Contains-listed, Listed-contained, same_rising}
use Rattle.rel_base.specs.CodeTable.{CodeTable, code_at, live_at}
use Rattle.rel_base.specs.RowState.{RowState, IsRowState, width, row}
use Rattle.rel_base.specs.Validity.{agree_of, agree_sets, pairs, determined, holds, holds_below}
use Rattle.rel_base.specs.Shows.{Shows, code_agree, live_numbers, code_sets, code_agree_sets, holds_in, HoldsIn, holds_in_below, HoldsInBelow}
use Rattle.rel_base.proofs.Agree.{agree-parts, Listed-pairs, PairOf, PairOf-pairs}
use Rattle.rel_base.proofs.States.{Rises-Climbs, live_climbs, live_positive, live_numbered}
use Rattle.rel_base.proofs.Valid.{Climbs-filter, determined-at, determined-from}

Ascends-Climbs : (a b : ℕ) (xs : List ℕ) → Ascends a b xs → Climbs xs
Ascends-Climbs a b [] r = tt
Ascends-Climbs a b (x ∷ xs) r = ((λ y h. let w = (Ascends_within (x + 1) b y xs r.2 h).0 in omega arith), Ascends-Climbs (x + 1) b xs r.2)

Listed-range : (n a k : ℕ) → a ≤ k → k < a + n → Listed k (range_with_len a n)
Listed-range n a k l h = by n a l h
  where
    by : (n a : ℕ) → a ≤ k → k < a + n → Listed k (range_with_len a n)
    by zero a l h = absurd (omega arith)
    by (suc n) a l h = here n a l h (λ g. by n (a + 1) g (omega arith)) (cases_eq k a)
      where
        here : (n a : ℕ) → a ≤ k → k < a + suc n → (a + 1 ≤ k → Listed k (range_with_len (a + 1) n)) → (k ≡ a) ⊎ (k ≢ a) → Listed k (range_with_len a (suc n))
        here n a l h rest (inl e) = inl e
        here n a l h rest (inr ne) = inr (rest (omega arith))

pub Climbs-live_numbers : (s : CodeTable) → Climbs (live_numbers s)
unfolding live_numbers
Climbs-live_numbers s = Climbs-filter (live_at s) (range_with_len 1 (s.to - 1)) (Ascends-Climbs 1 (1 + (s.to - 1)) _ (Ascends-range (s.to - 1) 1 (1 + (s.to - 1)) refl))

module _ (s : CodeTable) (r : RowState) (is : IsRowState r) (shows : Shows s r) where
  shown : (i : ℕ) → Listed i r.live → Listed i (live_numbers s)
  unfolding live_numbers
  shown i h =
      let p = live_positive r i is h in
      let l = live_numbered r i is h in
      let e = shows.next in
      Listed-filter (live_at s) i (range_with_len 1 (s.to - 1)) (Listed-range (s.to - 1) 1 i (omega arith) (omega arith)) ((shows.live i p).1 (Contains-listed i r.live h))

  was_live : (i : ℕ) → Listed i (live_numbers s) → Listed i r.live
  unfolding live_numbers
  was_live i h =
      let w = Listed-filter_parts (live_at s) i (range_with_len 1 (s.to - 1)) h in
      let a = (Ascends_within 1 (1 + (s.to - 1)) i (range_with_len 1 (s.to - 1)) (Ascends-range (s.to - 1) 1 (1 + (s.to - 1)) refl) w.0).0 in
      Listed-contained i r.live ((shows.live i (omega arith)).0 w.1)

  pub live_numbers-shown : live_numbers s ≡ r.live
  live_numbers-shown = same_rising nat_cmp_total (live_numbers s) r.live (Rises-Climbs _ (Climbs-live_numbers s)) (Rises-Climbs _ (live_climbs r is)) was_live shown

  pub code_agree-shown : (i j : ℕ) → Contains r.live i → Contains r.live j → i ≢ j → code_agree s i j ≡ agree_of r i j
  unfolding code_agree
  code_agree-shown i j h g ne = same_set _ _ (λ k. same_test _ _
      (λ e. let w = Listed-filter_parts (λ k. eqb (code_at s i k) (code_at s j k)) k (upto (length s.codes)) (set_of-has k _ e) in
      (shows.codes i j k h g ne (subst (λ (n : ℕ). k < n) shows.columns (Listed-upto_within (length s.codes) k w.0))).0 (eqb-true _ _ w.1))
      (λ e. let l = (agree-parts r.nulls (width r) (row r i) (row r j) k e).0 in
      has-set_of k _ (Listed-filter (λ k. eqb (code_at s i k) (code_at s j k)) k (upto (length s.codes)) (Listed-upto (length s.codes) k (subst (λ (n : ℕ). k < n) (sym shows.columns) l))
      (eq-eqb _ _ ((shows.codes i j k h g ne l).1 e)))))

  apart : (i j : ℕ) → i < j → i ≡ j → ⊥
  apart i j l e = omega arith

  map_pairs : (ps : List (ℕ × ℕ)) → ((p : ℕ × ℕ) → Listed p ps → PairOf r.live p.0 p.1) → map (λ p. code_agree s p.0 p.1) ps ≡ map (λ p. agree_of r p.0 p.1) ps
  map_pairs [] f = refl
  map_pairs (p ∷ ps) f =
      let q = f p (inl refl) in
      ap₂ (λ (w : ℕ) (ws : List ℕ). w ∷ ws) (code_agree-shown p.0 p.1 (Contains-listed p.0 r.live q.first) (Contains-listed p.1 r.live q.second) (apart p.0 p.1 q.rising)) (map_pairs ps (λ p h. f p (inr h)))

  pub code_agree_sets-shown : code_agree_sets s ≡ agree_sets r
  unfolding code_agree_sets agree_sets
  code_agree_sets-shown = ap (code_sets s) live_numbers-shown ∙ map_pairs (pairs r.live) (λ p h. PairOf-pairs r.live p (live_climbs r is) h)

  pub holds_in-shown : (x : ℕ) (t : Target) → holds_in s x t ≡ holds r x t
  unfolding holds_in holds
  holds_in-shown x t = ap (λ (ws : List ℕ). determined ws x t) code_agree_sets-shown

  pair_below : (b : ℕ) (p : ℕ × ℕ) → Listed p (pairs (filter (λ i. ltb i b) r.live)) → PairOf r.live p.0 p.1
  pair_below b p h =
      let q = PairOf-pairs (filter (λ i. ltb i b) r.live) p (Climbs-filter (λ i. ltb i b) r.live (live_climbs r is)) h in
      record { first = (Listed-filter_parts (λ i. ltb i b) p.0 r.live q.first).0; second = (Listed-filter_parts (λ i. ltb i b) p.1 r.live q.second).0; rising = q.rising }

  pub holds_in_below-shown : (b x : ℕ) (t : Target) → holds_in_below b s x t ≡ holds_below b r x t
  unfolding holds_in_below holds agree_sets
  holds_in_below-shown b x t = ap (λ (ws : List ℕ). determined ws x t)
      (ap (λ (ns : List ℕ). code_sets s (filter (λ i. ltb i b) ns)) live_numbers-shown ∙ map_pairs (pairs (filter (λ i. ltb i b) r.live)) (pair_below b))

-- ---- what the tests of a dependency in a snapshot mean
module _ (s : CodeTable) where
  code_agree-symm : (i j : ℕ) → code_agree s i j ≡ code_agree s j i
  unfolding code_agree
  code_agree-symm i j = ap set_of (filter_agree _ _ (λ k. same_test _ _ (λ e. eq-eqb _ _ (sym (eqb-true _ _ e))) (λ e. eq-eqb _ _ (sym (eqb-true _ _ e)))) (upto (length s.codes)))

  pub Listed-code_sets : (ns : List ℕ) (i j : ℕ) → Listed i ns → Listed j ns → i ≢ j → Listed (code_agree s i j) (code_sets s ns)
  Listed-code_sets ns i j h g ne = elim (Listed-pairs i j ns h g ne) as (λ _. Listed (code_agree s i j) (code_sets s ns)) [
    | inl w ↦ Listed-map (λ (p : ℕ × ℕ). code_agree s p.0 p.1) (i, j) (pairs ns) w
    | inr w ↦ subst (λ (z : ℕ). Listed z (code_sets s ns)) (code_agree-symm j i) (Listed-map (λ (p : ℕ × ℕ). code_agree s p.0 p.1) (j, i) (pairs ns) w)
  ]

  -- each of these sets is that of two of the rows, the smaller number first
  pub record CodeSetOf (ns : List ℕ) (w : ℕ) : Type 0 where
    pub i : ℕ
    pub j : ℕ
    pub first : Listed i ns
    pub second : Listed j ns
    pub rising : i < j
    pub same : w ≡ code_agree s i j

  pub CodeSetOf-code_sets : (ns : List ℕ) (w : ℕ) → Climbs ns → Listed w (code_sets s ns) → CodeSetOf ns w
  CodeSetOf-code_sets ns w up h =
      let v = Listed-map_which (λ (p : ℕ × ℕ). code_agree s p.0 p.1) w (pairs ns) h in
      let q = PairOf-pairs ns v.0 up v.1 in
      record { i = v.0.0; j = v.0.1; first = q.first; second = q.second; rising = q.rising; same = v.2 }

  differ : (i j : ℕ) → i < j → i ≡ j → ⊥
  differ i j l e = omega arith

  pub HoldsIn-tested : (x : ℕ) (t : Target) → holds_in s x t ≡ true → HoldsIn s x t
  unfolding holds_in code_agree_sets
  HoldsIn-tested x t e = record {
    each = λ i j h g ne w. determined-at (code_agree_sets s) x t _ e (Listed-code_sets (live_numbers s) i j (Listed-contained i _ h) (Listed-contained j _ g) ne) w;
  }

  pub holds_in-true : (x : ℕ) (t : Target) → HoldsIn s x t → holds_in s x t ≡ true
  unfolding holds_in code_agree_sets
  holds_in-true x t h = determined-from (code_agree_sets s) x t (λ w l inside.
      let v = CodeSetOf-code_sets (live_numbers s) w (Climbs-live_numbers s) l in
      ap (λ (z : ℕ). has_target z t) v.same ∙ h.each v.i v.j (Contains-listed v.i _ v.first) (Contains-listed v.j _ v.second) (differ v.i v.j v.rising) (subst (IsSubset x) v.same inside))

  pub HoldsInBelow-tested : (b x : ℕ) (t : Target) → holds_in_below b s x t ≡ true → HoldsInBelow b s x t
  unfolding holds_in_below
  HoldsInBelow-tested b x t e = record {
    each = λ i j h g l m ne w. determined-at (code_sets s (filter (λ i. ltb i b) (live_numbers s))) x t _ e
        (Listed-code_sets (filter (λ i. ltb i b) (live_numbers s)) i j (Listed-filter (λ i. ltb i b) i _ (Listed-contained i _ h) (lt-ltb i b l)) (Listed-filter (λ i. ltb i b) j _ (Listed-contained j _ g) (lt-ltb j b m)) ne) w;
  }

  pub holds_in_below-true : (b x : ℕ) (t : Target) → HoldsInBelow b s x t → holds_in_below b s x t ≡ true
  unfolding holds_in_below
  holds_in_below-true b x t h = determined-from (code_sets s (filter (λ i. ltb i b) (live_numbers s))) x t (λ w l inside.
      let v = CodeSetOf-code_sets (filter (λ i. ltb i b) (live_numbers s)) w (Climbs-filter (λ i. ltb i b) (live_numbers s) (Climbs-live_numbers s)) l in
      let f = Listed-filter_parts (λ i. ltb i b) v.i (live_numbers s) v.first in
      let g = Listed-filter_parts (λ i. ltb i b) v.j (live_numbers s) v.second in
      ap (λ (z : ℕ). has_target z t) v.same
      ∙ h.each v.i v.j (Contains-listed v.i _ f.0) (Contains-listed v.j _ g.0) (ltb-true v.i b f.1) (ltb-true v.j b g.1) (differ v.i v.j v.rising) (subst (IsSubset x) v.same inside))
