-- Lossless splits: a projection is the natural join of the projections that it is split into.
use Rattle.std.proofs.Common.{inl, inr, ◌≡◌, ◌≢◌, ◌⊎◌, ℕ, suc, ◌^◌, ◌<◌, ◌+◌, ◌-◌, Bool, true, false, not, ◌||◌, refl, sym, ap, ap₂, ◌∙◌, subst, arith, List, [], ◌∷◌, ◌++◌, length, map, get_or, cond}
use Rattle.std.specs.List.{Contains, filter, range_with_len}
use Rattle.std.proofs.lemmas.Bool.{and_parts, and_from, true≢false, or_cases, or_left, or_right, cases_eq, lt-ltb}
use Rattle.std.proofs.lemmas.Nat.{pow_pos}
use Rattle.col_set.specs.declared.target.Target.TheVariants.{Col}
use Rattle.col_set.specs.ColSet.{IsSubset, empty, has, all, minus, union, columns, upto}
use Rattle.col_set.specs.Columns.{columns_below}
use Rattle.col_set.specs.Target.{has_target}
use Rattle.col_set.specs.Lists.{Listed, Listed-append_left, Listed-append_right, Listed-append_cases}
use Rattle.col_set.specs.Members.{has-empty, has-all, has-inter, has-minus, has-union, same_set}
use Rattle.col_set.specs.Subsets.{same_test, subset_below, has_within}
use Rattle.col_set.specs.AllSets.{Listed-upto_within}
use Rattle.col_set.proofs.Places.{Contains-listed, Listed-contained}
use Rattle.rel_base.specs.declared.nulls.Nulls.TheVariants.{Equal}
use Rattle.rel_base.specs.Cells.{Cell, Row, cell}
use Rattle.rel_base.specs.RowState.{RowState, IsRowState, width, row}
use Rattle.rel_base.specs.Validity.{agree_of}
use Rattle.rel_base.specs.Projection.{part, projection, distinct_rows}
use Rattle.rel_base.proofs.Parts.{ProjectionMeans-projection}
use Rattle.rel_base.proofs.States.{live_positive, live_numbered}
use Rattle.rel_base.proofs.Valid.{Holds-tested}
use Rattle.lossless_join.specs.NaturalJoin.{TableRows, columns_of, IsMatched, IsNaturalJoin}
use Rattle.lossless_join.specs.Lossless.{projection_table, IsJoinOf, IsLossless, SplitsInto}
use Rattle.lossless_join.specs.Lossless.SplitsInto.{whole, parted}
use Rattle.lossless_join.proofs.PartCells.{part-same, part-cells}
use Rattle.lossless_join.proofs.Projected.{PartOf, PartOf-projection, projection-part, rows-agree, agree-rows}

-- a part of a part's row: what is equal on s is equal on what lies inside s
part-inside : (r : RowState) (s t : ℕ) (p : Row) → IsSubset t s → Contains (projection r s) (part s p) → Contains (projection r t) (part t p)
part-inside r s t p i h =
    let w = PartOf-projection r s (part s p) h in
    let e : part t (row r w.number) ≡ part t p = part-same t (row r w.number) p (λ k l. part-cells s (row r w.number) p w.same k (i.each k l)) in
    subst (λ (q : Row). Contains (projection r t) q) e (projection-part r t w.number w.live)

-- ---- the two sets of a split
module _ (r : RowState) (s x y : ℕ) (split : IsLossless r s x y) where
  minus-inside : IsSubset (minus s y) s
  minus-inside = record { each = λ k h. (and_parts (has s k) (not (has y k)) (sym (has-minus s y k) ∙ h)).0 }

  union-inside : IsSubset (union x y) s
  union-inside = record { each = λ k h. elim (or_cases (has x k) (has y k) (sym (has-union x y k) ∙ h)) as (λ _. has s k ≡ true) [ inl l ↦ split.left.each k l | inr l ↦ split.right.each k l ] }

  apart : (k : ℕ) → has x k ≡ true → has y k ≡ false
  apart k h = by (has y k) refl
    where
      by : (b : Bool) → has y k ≡ b → has y k ≡ false
      by true e = absurd (true≢false (sym (has-inter x y k ∙ and_from (has x k) (has y k) h e) ∙ ap (λ (z : ℕ). has z k) split.disjoint ∙ has-empty k))
      by false e = e

  left-kept : IsSubset x (minus s y)
  left-kept = record { each = λ k h. has-minus s y k ∙ and_from _ _ (split.left.each k h) (ap not (apart k h)) }

  left-joined : IsSubset x (union x y)
  left-joined = record { each = λ k h. has-union x y k ∙ or_left _ _ h }

  right-joined : IsSubset y (union x y)
  right-joined = record { each = λ k h. has-union x y k ∙ or_right (has x k) (has y k) h }

  -- each column of s is in one of them
  either : (k : ℕ) → has s k ≡ true → (has (minus s y) k ≡ true) ⊎ (has y k ≡ true)
  either k h = by (has y k) refl
    where
      by : (b : Bool) → has y k ≡ b → (has (minus s y) k ≡ true) ⊎ (has y k ≡ true)
      by true e = inr e
      by false e = inl (has-minus s y k ∙ and_from _ _ h (ap not e))

  two_unions : union (minus s y) (union x y) ≡ s
  two_unions = same_set _ s (λ k. same_test _ _
      (λ e. elim (or_cases (has (minus s y) k) (has (union x y) k) (sym (has-union (minus s y) (union x y) k) ∙ e)) as (λ _. has s k ≡ true) [ inl l ↦ minus-inside.each k l | inr l ↦ union-inside.each k l ])
      (λ e. has-union (minus s y) (union x y) k ∙ elim (either k e) as (λ _. (has (minus s y) k || has (union x y) k) ≡ true) [ inl l ↦ or_left _ _ l | inr l ↦ or_right (has (minus s y) k) _ (right-joined.each k l) ]))

  -- the two parts come together: rows that agree on x agree on y
  module _ (is : IsRowState r) (equal : r.nulls ≡ Equal) (bound : s < 2 ^ width r) where
    met : (i j : ℕ) → Contains r.live i → Contains r.live j → (i ≢ j) → IsSubset x (agree_of r i j) → (a : ℕ) → has y a ≡ true → cell (row r i) a ≡ cell (row r j) a
    unfolding has_target
    met i j h g ne w a l = (rows-agree r is equal i j a ((Holds-tested r x (Col a) (split.determines a l)).each i j h g ne w)).1

    joined : (p : Row) → Contains (projection r (minus s y)) (part (minus s y) p) → Contains (projection r (union x y)) (part (union x y) p) → Contains (projection r s) (part s p)
    joined p h g = by (PartOf-projection r (minus s y) (part (minus s y) p) h) (PartOf-projection r (union x y) (part (union x y) p) g)
      where
        by : PartOf r (minus s y) (part (minus s y) p) → PartOf r (union x y) (part (union x y) p) → Contains (projection r s) (part s p)
        by v u = subst (λ (q : Row). Contains (projection r s) q) (part-same s (row r v.number) p each) (projection-part r s v.number v.live)
          where
            here : (k : ℕ) → has (minus s y) k ≡ true → cell (row r v.number) k ≡ cell p k
            here k l = part-cells (minus s y) (row r v.number) p v.same k l

            there : (k : ℕ) → has (union x y) k ≡ true → cell (row r u.number) k ≡ cell p k
            there k l = part-cells (union x y) (row r u.number) p u.same k l

            agreeing : IsSubset x (agree_of r v.number u.number)
            agreeing = record { each = λ k l. agree-rows r is equal v.number u.number k (has_within s (width r) k bound (split.left.each k l)) (here k (left-kept.each k l) ∙ sym (there k (left-joined.each k l))) }

            across : (a : ℕ) → has y a ≡ true → cell (row r v.number) a ≡ cell (row r u.number) a
            across a l = elim (cases_eq v.number u.number) as (λ _. cell (row r v.number) a ≡ cell (row r u.number) a) [
              | inl e ↦ ap (λ (i : ℕ). cell (row r i) a) e
              | inr ne ↦ met v.number u.number v.live u.live ne agreeing a l
            ]

            each : (k : ℕ) → has s k ≡ true → cell (row r v.number) k ≡ cell p k
            each k l = elim (either k l) as (λ _. cell (row r v.number) k ≡ cell p k) [
              | inl m ↦ here k m
              | inr m ↦ across k m ∙ there k (right-joined.each k m)
            ]

-- ---- lists of tables
matched-none : (p : Row) → IsMatched [] p
matched-none p = record { each = λ t h. absurd (Listed-contained t [] h) }

matched-more : (t : TableRows) (ts : List TableRows) (p : Row) → Contains t.rows (part t.columns p) → IsMatched ts p → IsMatched (t ∷ ts) p
matched-more t ts p h m = record { each = λ u l. by u (Listed-contained u (t ∷ ts) l) }
  where
    by : (u : TableRows) → Listed u (t ∷ ts) → Contains u.rows (part u.columns p)
    by u (inl e) = subst (λ (v : TableRows). Contains v.rows (part v.columns p)) (sym e) h
    by u (inr g) = m.each u (Contains-listed u ts g)

matched-first : (t : TableRows) (ts : List TableRows) (p : Row) → IsMatched (t ∷ ts) p → Contains t.rows (part t.columns p)
matched-first t ts p m = m.each t (Contains-listed t (t ∷ ts) (inl refl))

matched-rest : (t : TableRows) (ts : List TableRows) (p : Row) → IsMatched (t ∷ ts) p → IsMatched ts p
matched-rest t ts p m = record { each = λ u l. m.each u (Contains-listed u (t ∷ ts) (inr (Listed-contained u ts l))) }

matched-append : (ts us : List TableRows) (p : Row) → IsMatched ts p → IsMatched us p → IsMatched (ts ++ us) p
matched-append ts us p m n = record {
  each = λ u l. elim (Listed-append_cases u ts us (Listed-contained u (ts ++ us) l)) as (λ _. Contains u.rows (part u.columns p)) [
    | inl g ↦ m.each u (Contains-listed u ts g)
    | inr g ↦ n.each u (Contains-listed u us g)
  ];
}

matched-left : (ts us : List TableRows) (p : Row) → IsMatched (ts ++ us) p → IsMatched ts p
matched-left ts us p m = record { each = λ u l. m.each u (Contains-listed u (ts ++ us) (Listed-append_left u ts us (Listed-contained u ts l))) }

matched-right : (ts us : List TableRows) (p : Row) → IsMatched (ts ++ us) p → IsMatched us p
matched-right ts us p m = record { each = λ u l. m.each u (Contains-listed u (ts ++ us) (Listed-append_right u ts us (Listed-contained u us l))) }

pub columns_of-append : (ts us : List TableRows) → columns_of (ts ++ us) ≡ union (columns_of ts) (columns_of us)
unfolding columns_of
columns_of-append [] us = same_set _ _ (λ k. sym (has-union empty (columns_of us) k ∙ ap (λ b. b || has (columns_of us) k) (has-empty k)))
columns_of-append (t ∷ ts) us = ap (union t.columns) (columns_of-append ts us) ∙ same_set _ _ (λ k.
    has-union t.columns (union (columns_of ts) (columns_of us)) k ∙ ap (λ b. has t.columns k || b) (has-union (columns_of ts) (columns_of us) k)
    ∙ regroup (has t.columns k) (has (columns_of ts) k) (has (columns_of us) k)
    ∙ sym (has-union (union t.columns (columns_of ts)) (columns_of us) k ∙ ap (λ b. b || has (columns_of us) k) (has-union t.columns (columns_of ts) k)))
  where
    regroup : (a b c : Bool) → (a || (b || c)) ≡ ((a || b) || c)
    regroup true b c = refl
    regroup false b c = refl

pub columns_of-one : (t : TableRows) → columns_of (t ∷ []) ≡ t.columns
unfolding columns_of
columns_of-one t = same_set _ _ (λ k. has-union t.columns empty k ∙ ap (λ b. has t.columns k || b) (has-empty k) ∙ or_false (has t.columns k))
  where
    or_false : (a : Bool) → (a || false) ≡ a
    or_false true = refl
    or_false false = refl

map-append : (f : ℕ → TableRows) (xs ys : List ℕ) → map f (xs ++ ys) ≡ map f xs ++ map f ys
map-append f [] ys = refl
map-append f (x ∷ xs) ys = ap (λ (ts : List TableRows). f x ∷ ts) (map-append f xs ys)

-- ---- all columns
pub reads : (q rest : Row) (a : ℕ) → ((k : ℕ) → get_or q (a + k) [] ≡ get_or rest k []) → map (λ k. get_or q k []) (range_with_len a (length rest)) ≡ rest
reads q [] a h = refl
reads q (c ∷ rest) a h = ap₂ (λ (x : Cell) (xs : Row). x ∷ xs)
    (let e : a ≡ a + 0 = omega arith in ap (λ (k : ℕ). get_or q k []) e ∙ h 0)
    (reads q rest (a + 1) (λ k. let e : (a + 1) + k ≡ a + suc k = omega arith in ap (λ (j : ℕ). get_or q j []) e ∙ h (suc k)))

all_pass : (p : ℕ → Bool) (xs : List ℕ) → ((k : ℕ) → Listed k xs → p k ≡ true) → filter p xs ≡ xs
all_pass p [] h = refl
all_pass p (x ∷ xs) h = ap (λ t. cond t (x ∷ filter p xs) (filter p xs)) (h x (inl refl)) ∙ ap (λ (ys : List ℕ). x ∷ ys) (all_pass p xs (λ k l. h k (inr l)))

pub all-below : (n : ℕ) → all n < 2 ^ n
unfolding all
all-below n = let l = pow_pos n in omega arith

pub columns-all : (n : ℕ) → columns (all n) ≡ upto n
columns-all n = columns_below n (all n) (all-below n) ∙ all_pass (has (all n)) (upto n) (λ k l. has-all n k ∙ lt-ltb k n (Listed-upto_within n k l))

-- a row over n columns is its own part on all of them
pub part-all : (n : ℕ) (q : Row) → length q ≡ n → part (all n) q ≡ q
unfolding part
part-all n q e = ap (map (cell q)) (columns-all n ∙ ap upto (sym e)) ∙ reads q q 0 (λ k. let z : 0 + k ≡ k = omega arith in ap (λ (j : ℕ). get_or q j []) z)

-- ---- the laws
module _ (r : RowState) (is : IsRowState r) (equal : r.nulls ≡ Equal) where
  IsJoinOf-whole : (s : ℕ) → IsJoinOf r s (s ∷ [])
  IsJoinOf-whole s = record {
    columns = columns_of-one (projection_table r s);
    rows = λ p. (
      λ h. matched-more (projection_table r s) [] p h (matched-none p),
      λ m. matched-first (projection_table r s) [] p m,
    );
  }

  IsJoinOf-parted : (s x y : ℕ) (ts us : List ℕ) → s < 2 ^ width r → IsLossless r s x y → IsJoinOf r (minus s y) ts → IsJoinOf r (union x y) us → IsJoinOf r s (ts ++ us)
  IsJoinOf-parted s x y ts us bound split left right = record {
    columns = ap columns_of (map-append (projection_table r) ts us) ∙ columns_of-append (map (projection_table r) ts) (map (projection_table r) us) ∙ ap₂ union left.columns right.columns ∙ two_unions r s x y split;
    rows = λ p. (
      λ h. subst (λ (vs : List TableRows). IsMatched vs p) (sym (map-append (projection_table r) ts us))
          (matched-append (map (projection_table r) ts) (map (projection_table r) us) p
          ((left.rows p).0 (part-inside r s (minus s y) p (minus-inside r s x y split) h))
          ((right.rows p).0 (part-inside r s (union x y) p (union-inside r s x y split) h))),
      λ m. let n = subst (λ (vs : List TableRows). IsMatched vs p) (map-append (projection_table r) ts us) m in
          joined r s x y split is equal bound p
          ((left.rows p).1 (matched-left (map (projection_table r) ts) (map (projection_table r) us) p n))
          ((right.rows p).1 (matched-right (map (projection_table r) ts) (map (projection_table r) us) p n)),
    );
  }

  pub IsJoinOf-split : (s x y : ℕ) → s < 2 ^ width r → IsLossless r s x y → IsJoinOf r s (minus s y ∷ union x y ∷ [])
  IsJoinOf-split s x y bound split = IsJoinOf-parted s x y (minus s y ∷ []) (union x y ∷ []) bound split (IsJoinOf-whole (minus s y)) (IsJoinOf-whole (union x y))

  pub IsJoinOf-splits : (s : ℕ) (sets : List ℕ) → s < 2 ^ width r → SplitsInto r s sets → IsJoinOf r s sets
  IsJoinOf-splits s sets bound (whole) = IsJoinOf-whole s
  IsJoinOf-splits s sets bound (parted {x = x} {y = y} {ts = ts} {us = us} split left right) =
      IsJoinOf-parted s x y ts us bound split
      (IsJoinOf-splits (minus s y) ts (subset_below (width r) (minus-inside r s x y split) bound) left)
      (IsJoinOf-splits (union x y) us (subset_below (width r) (union-inside r s x y split) bound) right)

  row-wide : (i : ℕ) → Contains r.live i → length (row r i) ≡ width r
  row-wide i h =
      let p = live_positive r i is (Listed-contained i r.live h) in
      let l = live_numbered r i is (Listed-contained i r.live h) in
      is.widths (i - 1) [] (omega arith)

  -- a distinct row is a live row
  distinct-wide : (q : Row) → Contains (distinct_rows r) q → length q ≡ width r
  distinct-wide q h =
      let w = PartOf-projection r (all (width r)) q h in
      let e = row-wide w.number w.live in
      ap length (sym w.same ∙ part-all (width r) (row r w.number) e) ∙ e

  pub IsNaturalJoin-splits : (sets : List ℕ) → SplitsInto r (all (width r)) sets → IsNaturalJoin (width r) (map (projection_table r) sets) (distinct_rows r)
  IsNaturalJoin-splits sets split =
      let j = IsJoinOf-splits (all (width r)) sets (all-below (width r)) split in
      record {
        exactly = λ q. (
          λ h. let e = distinct-wide q h in record { wide = e; matched = (j.rows q).0 (subst (λ (p : Row). Contains (distinct_rows r) p) (sym (part-all (width r) q e)) h) },
          λ m. subst (λ (p : Row). Contains (distinct_rows r) p) (part-all (width r) q m.wide) ((j.rows q).1 m.matched),
        );
        once = (ProjectionMeans-projection r (all (width r))).once;
      }
