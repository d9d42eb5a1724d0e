-- Dependencies and keys of a projection: what the tests mean, and what they have to do with the rows.
use Rattle.std.proofs.Common.{inl, inr, ◌≡◌, ◌≢◌, ◌⊎◌, ℕ, ◌^◌, ◌<◌, suc, Bool, true, false, ◌&&◌, refl, sym, ap, ap₂, ◌∙◌, subst, arith, List, [], ◌∷◌, map}
use Rattle.std.specs.List.{Contains, AllPairs}
use Rattle.std.proofs.lemmas.Bool.{and_parts, and_from, true≢false}
use Rattle.col_set.specs.declared.target.Target.{Target}
use Rattle.col_set.specs.declared.target.Target.TheVariants.{Col, RowId}
use Rattle.col_set.specs.ColSet.{IsSubset, has, subset, all_sets}
use Rattle.col_set.specs.Target.{has_target}
use Rattle.col_set.specs.Minimal.{is_minimal}
use Rattle.col_set.specs.Lists.{Listed, Listed-append_cases, Listed-map, Listed-map_which, Listed-filter, Listed-filter_parts}
use Rattle.col_set.specs.Members.{same_set}
use Rattle.col_set.specs.Subsets.{same_test, subset-true, true-subset, has_within}
use Rattle.col_set.specs.AllSets.{Listed-all_sets}
use Rattle.col_set.proofs.Minimal.{IsMinimal-from_test, test_from_IsMinimal}
use Rattle.col_set.proofs.Places.{Contains-listed, Listed-contained}
use Rattle.rel_base.specs.declared.nulls.Nulls.{Nulls}
use Rattle.rel_base.specs.declared.nulls.Nulls.TheVariants.{Equal}
use Rattle.rel_base.specs.Cells.{Cell, Row, cell}
use Rattle.rel_base.specs.Agreement.{Agrees}
use Rattle.rel_base.specs.RowState.{RowState, IsRowState, width, row}
use Rattle.rel_base.specs.Validity.{agree_of, pairs, holds, Holds}
use Rattle.rel_base.specs.Projection.{part, same_row, projection}
use Rattle.rel_base.proofs.Agree.{agree-parts, agree-from, true-same_cell, Listed-pairs}
use Rattle.rel_base.proofs.Parts.{same_row-true, ProjectionMeans-projection}
use Rattle.rel_base.proofs.States.{live_climbs}
use Rattle.rel_base.proofs.Valid.{determined-at, determined-from, Holds-tested, holds-true}
use Rattle.lossless_join.specs.Parts.{part_agree, part_agree_sets, projection_holds, ProjectionHolds, projection_keys, IsProjectionKey}
use Rattle.lossless_join.proofs.PartCells.{part-same, part-cells, part_agree-parts, part_agree-from, rows_agree-parts, rows_agree-from}

-- ---- the parts of the live rows
pub record PartOf (r : RowState) (s : ℕ) (p : Row) : Type 0 where
  pub number : ℕ
  pub live : Contains r.live number
  pub same : part s (row r number) ≡ p

pub PartOf-projection : (r : RowState) (s : ℕ) (p : Row) → Contains (projection r s) p → PartOf r s p
PartOf-projection r s p h = let w = ((ProjectionMeans-projection r s).parts p).0 h in record { number = w.0; live = w.1; same = w.2 }

pub projection-part : (r : RowState) (s i : ℕ) → Contains r.live i → Contains (projection r s) (part s (row r i))
projection-part r s i h = ((ProjectionMeans-projection r s).parts (part s (row r i))).1 (i, h, refl)

-- ---- each two of a list
abbrev pub Apart : List Row → Type 0
Apart [] = Unit {0}
Apart (x ∷ xs) = ((y : Row) → Listed y xs → x ≢ y) × Apart xs

Apart-pairs : (xs : List Row) (p : Row × Row) → Apart xs → Listed p (pairs xs) → Listed p.0 xs × Listed p.1 xs × (p.0 ≢ p.1)
unfolding pairs
Apart-pairs [] p a h = absurd h
Apart-pairs (x ∷ xs) p a h = elim (Listed-append_cases p (map (λ y. (x, y)) xs) (pairs xs) h) as (λ _. Listed p.0 (x ∷ xs) × Listed p.1 (x ∷ xs) × (p.0 ≢ p.1)) [
  | inl g ↦ let w = Listed-map_which (λ y. (x, y)) p xs g in
      subst (λ (q : Row × Row). Listed q.0 (x ∷ xs) × Listed q.1 (x ∷ xs) × (q.0 ≢ q.1)) (sym w.2) (inl refl, inr w.1, a.0 w.0 w.1)
  | inr g ↦ let w = Apart-pairs xs p a.1 g in (inr w.0, inr w.1, w.2)
]

Apart-from : (xs : List Row) → AllPairs (λ x y. x ≢ y) xs → Apart xs
Apart-from [] h = tt
Apart-from (x ∷ xs) h = (
  λ y l e. let w = Contains-listed y xs l in let b = w.1 in h 0 (suc w.0) y (omega arith) (omega arith) (e ∙ sym w.2),
  Apart-from xs (λ i j d l m. h (suc i) (suc j) d (omega arith) (omega arith)),
)

Apart-projection : (r : RowState) (s : ℕ) → Apart (projection r s)
Apart-projection r s = Apart-from _ (ProjectionMeans-projection r s).once

-- two rows are equal or not
pub same_row-itself : (a : Row) → same_row a a ≡ true
same_row-itself [] = refl
same_row-itself (x ∷ xs) = and_from _ _ (true-same_cell x x refl) (same_row-itself xs)

pub cases_row : (a b : Row) → (a ≡ b) ⊎ (a ≢ b)
cases_row a b = by (same_row a b) refl
  where
    by : (t : Bool) → same_row a b ≡ t → (a ≡ b) ⊎ (a ≢ b)
    by true e = inl (same_row-true a b e)
    by false e = inr (λ i. true≢false (sym (subst (λ (c : Row). same_row a c ≡ true) i (same_row-itself a)) ∙ e))

-- ---- what the tests mean
part_agree-symm : (s : ℕ) (p q : Row) → part_agree s q p ≡ part_agree s p q
part_agree-symm s p q = same_set _ _ (λ k. same_test _ _
    (λ e. let w = part_agree-parts s q p k e in part_agree-from s p q k w.0 (sym w.1))
    (λ e. let w = part_agree-parts s p q k e in part_agree-from s q p k w.0 (sym w.1)))

pub ProjectionHolds-tested : (r : RowState) (s x : ℕ) (t : Target) → projection_holds r s x t ≡ true → ProjectionHolds r s x t
unfolding projection_holds part_agree_sets
ProjectionHolds-tested r s x t e = record { each = λ p q h g ne i. by p q i (Listed-pairs p q (projection r s) (Listed-contained p _ h) (Listed-contained q _ g) ne) }
  where
    at : (p q : Row) → Listed (p, q) (pairs (projection r s)) → IsSubset x (part_agree s p q) → has_target (part_agree s p q) t ≡ true
    at p q l i = determined-at (part_agree_sets s (projection r s)) x t (part_agree s p q) e (Listed-map (λ (w : Row × Row). part_agree s w.0 w.1) (p, q) _ l) i

    by : (p q : Row) → IsSubset x (part_agree s p q) → Listed (p, q) (pairs (projection r s)) ⊎ Listed (q, p) (pairs (projection r s)) → has_target (part_agree s p q) t ≡ true
    by p q i (inl l) = at p q l i
    by p q i (inr l) = ap (λ (w : ℕ). has_target w t) (sym (part_agree-symm s p q)) ∙ at q p l (subst (IsSubset x) (sym (part_agree-symm s p q)) i)

pub projection_holds-true : (r : RowState) (s x : ℕ) (t : Target) → ProjectionHolds r s x t → projection_holds r s x t ≡ true
unfolding projection_holds part_agree_sets
projection_holds-true r s x t h = determined-from (part_agree_sets s (projection r s)) x t (λ w l i.
    let v = Listed-map_which (λ (p : Row × Row). part_agree s p.0 p.1) w (pairs (projection r s)) l in
    let q = Apart-pairs (projection r s) v.0 (Apart-projection r s) v.1 in
    ap (λ (z : ℕ). has_target z t) v.2 ∙ h.each v.0.0 v.0.1 (Contains-listed v.0.0 _ q.0) (Contains-listed v.0.1 _ q.1) q.2 (subst (IsSubset x) v.2 i))

pub IsProjectionKey-listed : (r : RowState) (s x : ℕ) → x < 2 ^ width r → Contains (projection_keys r s) x → IsProjectionKey r s x
unfolding projection_keys
IsProjectionKey-listed r s x b h =
    let w = Listed-filter_parts (λ x. subset x s && is_minimal (width r) (λ y. projection_holds r s y RowId) x) x (all_sets (width r)) (Listed-contained x _ h) in
    let q = and_parts (subset x s) (is_minimal (width r) (λ y. projection_holds r s y RowId) x) w.1 in
    let m = IsMinimal-from_test (width r) (λ y. projection_holds r s y RowId) x b q.1 in
    record {
      inside = subset-true q.0;
      unique = ProjectionHolds-tested r s x RowId m.passes;
      smallest = λ y i g. m.smallest y i (projection_holds-true r s y RowId g);
    }

pub listed-IsProjectionKey : (r : RowState) (s x : ℕ) → x < 2 ^ width r → IsProjectionKey r s x → Contains (projection_keys r s) x
unfolding projection_keys
listed-IsProjectionKey r s x b k = Contains-listed x _ (Listed-filter (λ x. subset x s && is_minimal (width r) (λ y. projection_holds r s y RowId) x) x (all_sets (width r)) (Listed-all_sets (width r) x b)
    (and_from (subset x s) _ (true-subset k.inside) (test_from_IsMinimal (width r) (λ y. projection_holds r s y RowId) x (record {
      passes = projection_holds-true r s x RowId k.unique;
      smallest = λ y i e. k.smallest y i (ProjectionHolds-tested r s y RowId e);
    }))))

-- ---- the rows and their parts
module _ (r : RowState) (is : IsRowState r) (equal : r.nulls ≡ Equal) where
  pub rows-agree : (i j k : ℕ) → has (agree_of r i j) k ≡ true → (k < width r) × (cell (row r i) k ≡ cell (row r j) k)
  rows-agree i j k e =
      let w = agree-parts r.nulls (width r) (row r i) (row r j) k e in
      (w.0, subst (λ (n : Nulls). Agrees n (cell (row r i) k) (cell (row r j) k)) equal w.1)

  pub agree-rows : (i j k : ℕ) → k < width r → cell (row r i) k ≡ cell (row r j) k → has (agree_of r i j) k ≡ true
  agree-rows i j k l e = agree-from r.nulls (width r) (row r i) (row r j) k l (subst (λ (n : Nulls). Agrees n (cell (row r i) k) (cell (row r j) k)) (sym equal) e)

  module _ (s x : ℕ) (bound : s < 2 ^ width r) (inside : IsSubset x s) where
    parts_agree : (i j : ℕ) → IsSubset x (agree_of r i j) → IsSubset x (part_agree s (part s (row r i)) (part s (row r j)))
    parts_agree i j g = record { each = λ k h. rows_agree-from s (row r i) (row r j) k (inside.each k h) (rows-agree i j k (g.each k h)).1 }

    rows_agree : (i j : ℕ) → IsSubset x (part_agree s (part s (row r i)) (part s (row r j))) → IsSubset x (agree_of r i j)
    rows_agree i j g = record { each = λ k h. agree-rows i j k (has_within s (width r) k bound (inside.each k h)) (rows_agree-parts s (row r i) (row r j) k (g.each k h)).1 }

    holds-part : (a : ℕ) → has s a ≡ true → ProjectionHolds r s x (Col a) → Holds r x (Col a)
    unfolding has_target
    holds-part a h p = record { each = λ i j f g ne w. by i j f g w (cases_row (part s (row r i)) (part s (row r j))) }
      where
        by : (i j : ℕ) → Contains r.live i → Contains r.live j → IsSubset x (agree_of r i j) → (part s (row r i) ≡ part s (row r j)) ⊎ (part s (row r i) ≢ part s (row r j)) → has (agree_of r i j) a ≡ true
        by i j f g w (inl e) = agree-rows i j a (has_within s (width r) a bound h) (part-cells s (row r i) (row r j) e a h)
        by i j f g w (inr ne) = agree-rows i j a (has_within s (width r) a bound h)
            (rows_agree-parts s (row r i) (row r j) a (p.each _ _ (projection-part r s i f) (projection-part r s j g) ne (parts_agree i j w))).1

    -- two different parts come from two different live rows
    part-holds : (t : Target) → ((i j : ℕ) → Contains r.live i → Contains r.live j → i ≢ j → part s (row r i) ≢ part s (row r j) → IsSubset x (agree_of r i j) → has_target (part_agree s (part s (row r i)) (part s (row r j))) t ≡ true) → ProjectionHolds r s x t
    part-holds t f = record { each = λ p q h g ne w. by p q ne w (PartOf-projection r s p h) (PartOf-projection r s q g) }
      where
        by : (p q : Row) → p ≢ q → IsSubset x (part_agree s p q) → PartOf r s p → PartOf r s q → has_target (part_agree s p q) t ≡ true
        by p q ne w v u =
            let i = v.number in
            let j = u.number in
            let apart : part s (row r i) ≢ part s (row r j) = λ e. ne (sym v.same ∙ e ∙ u.same) in
            let same : part_agree s (part s (row r i)) (part s (row r j)) ≡ part_agree s p q = ap₂ (part_agree s) v.same u.same in
            subst (λ (z : ℕ). has_target z t ≡ true) same (f i j v.live u.live (λ (e : i ≡ j). apart (ap (λ (k : ℕ). part s (row r k)) e)) apart (rows_agree i j (subst (IsSubset x) (sym same) w)))

    pub projection_holds-rows : (a : ℕ) → has s a ≡ true → projection_holds r s x (Col a) ≡ holds r x (Col a)
    unfolding has_target
    projection_holds-rows a h = same_test _ _
        (λ e. holds-true r x (Col a) (live_climbs r is) (holds-part a h (ProjectionHolds-tested r s x (Col a) e)))
        (λ e. let g = Holds-tested r x (Col a) e in projection_holds-true r s x (Col a) (part-holds (Col a)
        (λ i j f k ne apart w. rows_agree-from s (row r i) (row r j) a h (rows-agree i j a (g.each i j f k ne w)).1)))

    pub unique-determines : projection_holds r s x RowId ≡ true → (a : ℕ) → has s a ≡ true → holds r x (Col a) ≡ true
    unfolding has_target
    unique-determines e a h = let u = ProjectionHolds-tested r s x RowId e in
        holds-true r x (Col a) (live_climbs r is) (holds-part a h (record { each = λ p q f g ne w. absurd (true≢false (sym (u.each p q f g ne w))) }))

    pub determines-unique : ((a : ℕ) → has s a ≡ true → holds r x (Col a) ≡ true) → projection_holds r s x RowId ≡ true
    unfolding has_target
    determines-unique f = projection_holds-true r s x RowId (part-holds RowId
        (λ i j h g ne apart w. absurd (apart (part-same s (row r i) (row r j) (λ k l. (rows-agree i j k (at i j h g ne w k l)).1)))))
      where
        at : (i j : ℕ) → Contains r.live i → Contains r.live j → i ≢ j → IsSubset x (agree_of r i j) → (k : ℕ) → has s k ≡ true → has (agree_of r i j) k ≡ true
        at i j h g ne w k l = (Holds-tested r x (Col k) (f k l)).each i j h g ne w
