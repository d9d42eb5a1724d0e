-- What the test of a dependency means, and what it has to do with refuted sets.
use Rattle.std.proofs.Common.{inl, inr, ◌≡◌, ◌≢◌, ℕ, ◌<◌, ltb, Bool, true, false, not, ◌&&◌, ◌||◌, refl, ap, ◌∙◌, subst, arith, List, [], ◌∷◌, cond}
use Rattle.std.specs.List.{filter, Contains}
use Rattle.std.proofs.lemmas.Bool.{false≢true, ltb-true, lt-ltb}
use Rattle.col_set.specs.declared.target.Target.{Target}
use Rattle.col_set.specs.declared.target.Target.TheVariants.{RowId}
use Rattle.col_set.specs.ColSet.{IsSubset, subset}
use Rattle.col_set.specs.Target.{has_target}
use Rattle.col_set.specs.Evidence.{refuted}
use Rattle.col_set.specs.Lists.{Listed, Listed-map, Listed-map_which, Listed-filter, Listed-filter_parts, list_all_at, list_all_from}
use Rattle.col_set.specs.Subsets.{IsSubset-trans, subset-true, true-subset}
use Rattle.col_set.proofs.Places.{Contains-listed, Listed-contained, Climbs}
use Rattle.rel_base.specs.RowState.{RowState, width, row}
use Rattle.rel_base.specs.Validity.{agree_of, agree_sets, pairs, determined, holds, Holds, below, holds_below, HoldsBelow}
use Rattle.rel_base.proofs.Agree.{agree-symm, Listed-pairs, PairOf-pairs}

implied : (a b : Bool) → (not a || b) ≡ true → a ≡ true → b ≡ true
implied true b e f = e
implied false b e f = absurd (false≢true f)

implies : (a b : Bool) → (a ≡ true → b ≡ true) → (not a || b) ≡ true
implies true b f = f refl
implies false b f = refl

-- ---- over a list of agree sets
pub determined-at : (ws : List ℕ) (x : ℕ) (t : Target) (w : ℕ) → determined ws x t ≡ true → Listed w ws → IsSubset x w → has_target w t ≡ true
determined-at ws x t w e h s = implied _ _ (list_all_at (λ w. not (subset x w) || has_target w t) w ws e h) (true-subset s)

pub determined-from : (ws : List ℕ) (x : ℕ) (t : Target) → ((w : ℕ) → Listed w ws → IsSubset x w → has_target w t ≡ true) → determined ws x t ≡ true
determined-from ws x t f = list_all_from (λ w. not (subset x w) || has_target w t) ws (λ w h. implies _ _ (λ e. f w h (subset-true e)))

-- it is what is not refuted
pub determined-refuted : (ws : List ℕ) (x : ℕ) (t : Target) → determined ws x t ≡ not (refuted ws t x)
unfolding refuted
determined-refuted [] x t = refl
determined-refuted (w ∷ ws) x t = by (subset x w) (has_target w t) _ _ (determined-refuted ws x t)
  where
    by : (a b c d : Bool) → c ≡ not d → ((not a || b) && c) ≡ not ((a && not b) || d)
    by true true c d e = e
    by true false c d e = refl
    by false b c d e = e

pub determined-more : (ws : List ℕ) (x y : ℕ) (t : Target) → IsSubset x y → determined ws x t ≡ true → determined ws y t ≡ true
determined-more ws x y t s e = determined-from ws y t (λ w h i. determined-at ws x t w e h (IsSubset-trans s i))

-- what determines which row it is determines each column
pub determined-key : (ws : List ℕ) (x : ℕ) (t : Target) → determined ws x RowId ≡ true → determined ws x t ≡ true
unfolding has_target
determined-key ws x t e = determined-from ws x t (λ w h s. absurd (false≢true (determined-at ws x RowId w e h s)))

-- fewer agree sets refute less
pub determined-fewer : (vs ws : List ℕ) (x : ℕ) (t : Target) → ((w : ℕ) → Listed w vs → Listed w ws) → determined ws x t ≡ true → determined vs x t ≡ true
determined-fewer vs ws x t f e = determined-from vs x t (λ w h s. determined-at ws x t w e (f w h) s)

-- ---- over the live rows
pub Listed-agree_sets : (r : RowState) (i j : ℕ) → Listed i r.live → Listed j r.live → i ≢ j → Listed (agree_of r i j) (agree_sets r)
unfolding agree_sets
Listed-agree_sets r i j h g ne = elim (Listed-pairs i j r.live h g ne) as (λ _. Listed (agree_of r i j) (agree_sets r)) [
  | inl w ↦ Listed-map (λ (p : ℕ × ℕ). agree_of r p.0 p.1) (i, j) (pairs r.live) w
  | inr w ↦ subst (λ (z : ℕ). Listed z (agree_sets r)) (agree-symm r.nulls (width r) (row r j) (row r i)) (Listed-map (λ (p : ℕ × ℕ). agree_of r p.0 p.1) (j, i) (pairs r.live) w)
]

-- the agree set of two live rows, the smaller number first
pub record AgreeOf (r : RowState) (w : ℕ) : Type 0 where
  pub i : ℕ
  pub j : ℕ
  pub first : Listed i r.live
  pub second : Listed j r.live
  pub rising : i < j
  pub same : w ≡ agree_of r i j

pub AgreeOf-agree_sets : (r : RowState) (w : ℕ) → Climbs r.live → Listed w (agree_sets r) → AgreeOf r w
unfolding agree_sets
AgreeOf-agree_sets r w up h =
    let v = Listed-map_which (λ (p : ℕ × ℕ). agree_of r p.0 p.1) w (pairs r.live) h in
    let q = PairOf-pairs r.live v.0 up v.1 in
    record { i = v.0.0; j = v.0.1; first = q.first; second = q.second; rising = q.rising; same = v.2 }

pub Holds-tested : (r : RowState) (x : ℕ) (t : Target) → holds r x t ≡ true → Holds r x t
unfolding holds
Holds-tested r x t e = record {
  each = λ i j h g ne s. determined-at (agree_sets r) x t _ e (Listed-agree_sets r i j (Listed-contained i r.live h) (Listed-contained j r.live g) ne) s;
}

apart : (i j : ℕ) → i < j → i ≡ j → ⊥
apart i j l e = omega arith

pub holds-true : (r : RowState) (x : ℕ) (t : Target) → Climbs r.live → Holds r x t → holds r x t ≡ true
unfolding holds
holds-true r x t up h = determined-from (agree_sets r) x t (λ w l s.
    let v = AgreeOf-agree_sets r w up l in
    ap (λ (z : ℕ). has_target z t) v.same ∙ h.each v.i v.j (Contains-listed v.i r.live v.first) (Contains-listed v.j r.live v.second) (apart v.i v.j v.rising) (subst (IsSubset x) v.same s))

pub holds-refuted : (r : RowState) (x : ℕ) (t : Target) → holds r x t ≡ not (refuted (agree_sets r) t x)
unfolding holds
holds-refuted r x t = determined-refuted (agree_sets r) x t

pub holds-more : (r : RowState) (x y : ℕ) (t : Target) → IsSubset x y → holds r x t ≡ true → holds r y t ≡ true
unfolding holds
holds-more r x y t s e = determined-more (agree_sets r) x y t s e

pub holds-key : (r : RowState) (x : ℕ) (t : Target) → holds r x RowId ≡ true → holds r x t ≡ true
unfolding holds
holds-key r x t e = determined-key (agree_sets r) x t e

-- ---- among the rows below a number
pub Climbs-filter : (p : ℕ → Bool) (xs : List ℕ) → Climbs xs → Climbs (filter p xs)
Climbs-filter p [] r = tt
Climbs-filter p (x ∷ xs) r = by (p x) (Climbs-filter p xs r.1)
  where
    by : (b : Bool) → Climbs (filter p xs) → Climbs (cond b (x ∷ filter p xs) (filter p xs))
    by true g = ((λ y h. r.0 y (Listed-filter_parts p y xs h).0), g)
    by false g = g

pub Contains-below : (b : ℕ) (r : RowState) (i : ℕ) → Contains r.live i → i < b → Contains (below b r).live i
Contains-below b r i h l = Contains-listed i (below b r).live (Listed-filter (λ i. ltb i b) i r.live (Listed-contained i r.live h) (lt-ltb i b l))

pub below-contains : (b : ℕ) (r : RowState) (i : ℕ) → Contains (below b r).live i → Contains r.live i × (i < b)
below-contains b r i h = let w = Listed-filter_parts (λ i. ltb i b) i r.live (Listed-contained i (below b r).live h) in (Contains-listed i r.live w.0, ltb-true i b w.1)

pub HoldsBelow-tested : (b : ℕ) (r : RowState) (x : ℕ) (t : Target) → holds_below b r x t ≡ true → HoldsBelow b r x t
HoldsBelow-tested b r x t e = let h = Holds-tested (below b r) x t e in record {
  each = λ i j f g k l ne s. h.each i j (Contains-below b r i f k) (Contains-below b r j g l) ne s;
}

pub holds_below-true : (b : ℕ) (r : RowState) (x : ℕ) (t : Target) → Climbs r.live → HoldsBelow b r x t → holds_below b r x t ≡ true
holds_below-true b r x t up h = holds-true (below b r) x t (Climbs-filter (λ i. ltb i b) r.live up) (record {
  each = λ i j f g ne s. let v = below-contains b r i f in let w = below-contains b r j g in h.each i j v.0 w.0 v.1 w.1 ne s;
})
