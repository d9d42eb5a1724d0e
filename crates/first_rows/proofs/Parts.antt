-- The parts of the first rows are the distinct parts.
use Rattle.std.proofs.Common.{inl, inr, ◌≡◌, ℕ, ◌<◌, ◌^◌, Bool, true, false, cond, not, ◌&&◌, ◌||◌, ltb, refl, sym, ap, ap₂, ◌∙◌, subst, arith, List, [], ◌∷◌, map}
use Rattle.std.specs.List.{filter}
use Rattle.std.proofs.lemmas.Bool.{and_parts, lt-ltb, ltb-true, false_from_ne_true}
use Rattle.col_set.specs.ColSet.{has, columns, IsSubset}
use Rattle.col_set.specs.Lists.{Listed, list_any_which}
use Rattle.col_set.specs.Subsets.{same_test, has_within}
use Rattle.col_set.proofs.EachColumn.{Listed-columns, columns-listed}
use Rattle.col_set.proofs.Places.{Climbs, Contains-listed}
use Rattle.rel_base.specs.declared.nulls.Nulls.{Nulls}
use Rattle.rel_base.specs.declared.nulls.Nulls.TheVariants as nulls
use Rattle.rel_base.specs.Agreement.{Agrees}
use Rattle.rel_base.specs.Cells.{Cell, Row, cell}
use Rattle.rel_base.specs.CodeTable.{CodeTable}
use Rattle.rel_base.specs.Projection.{part, same_row, distinct, projected, projection}
use Rattle.rel_base.specs.RowState.{RowState, IsRowState, row, width}
use Rattle.rel_base.specs.Shows.{Shows, code_agree}
use Rattle.rel_base.specs.Validity.{agree_of}
use Rattle.rel_base.proofs.Agree.{agree-parts, agree-from}
use Rattle.rel_base.proofs.Parts.{same_row-true, true-same_row}
use Rattle.rel_base.proofs.Shown.{Climbs-live_numbers, live_numbers-shown, code_agree-shown}
use Rattle.stripped_partition.specs.Stripped.{agree_on}
use Rattle.stripped_partition.proofs.Agreeing.{agree_on-subset, subset-agree_on}
use Rattle.first_rows.specs.First.{follows, first_rows}

-- ---- lists
both : (p q : ℕ → Bool) (xs : List ℕ) → filter (λ y. not (p y || q y)) xs ≡ filter (λ y. not (p y)) (filter (λ y. not (q y)) xs)
both p q [] = refl
both p q (x ∷ xs) = by (p x) (q x) refl (both p q xs)
  where
    by : (a b : Bool) → p x ≡ a → filter (λ y. not (p y || q y)) xs ≡ filter (λ y. not (p y)) (filter (λ y. not (q y)) xs)
        → cond (not (a || b)) (x ∷ filter (λ y. not (p y || q y)) xs) (filter (λ y. not (p y || q y)) xs) ≡ filter (λ y. not (p y)) (cond (not b) (x ∷ filter (λ y. not (q y)) xs) (filter (λ y. not (q y)) xs))
    by true true e rest = rest
    by false true e rest = rest
    by true false e rest = rest ∙ ap (λ (b : Bool). cond (not b) (x ∷ filter (λ y. not (p y)) (filter (λ y. not (q y)) xs)) (filter (λ y. not (p y)) (filter (λ y. not (q y)) xs))) (sym e)
    by false false e rest = ap (λ (ys : List ℕ). x ∷ ys) rest ∙ ap (λ (b : Bool). cond (not b) (x ∷ filter (λ y. not (p y)) (filter (λ y. not (q y)) xs)) (filter (λ y. not (p y)) (filter (λ y. not (q y)) xs))) (sym e)

alike : (p q : ℕ → Bool) (xs : List ℕ) → ((y : ℕ) → Listed y xs → p y ≡ q y) → filter (λ y. not (p y)) xs ≡ filter (λ y. not (q y)) xs
alike p q [] f = refl
alike p q (x ∷ xs) f = ap₂ (λ (b : Bool) (ys : List ℕ). cond (not b) (x ∷ ys) ys) (f x (inl refl)) (alike p q xs (λ y l. f y (inr l)))

through : (f : ℕ → Row) (g : Row → Bool) (xs : List ℕ) → map f (filter (λ y. g (f y)) xs) ≡ filter g (map f xs)
through f g [] = refl
through f g (x ∷ xs) = by (g (f x)) (through f g xs)
  where
    by : (b : Bool) → map f (filter (λ y. g (f y)) xs) ≡ filter g (map f xs) → map f (cond b (x ∷ filter (λ y. g (f y)) xs) (filter (λ y. g (f y)) xs)) ≡ cond b (f x ∷ filter g (map f xs)) (filter g (map f xs))
    by true e = ap (λ (ys : List Row). f x ∷ ys) e
    by false e = e

-- ---- what is the same as nothing before it, and each once
module _ (f : ℕ → Row) (same : ℕ → ℕ → Bool) where
  first_not : (x : ℕ) (xs : List ℕ) → Climbs (x ∷ xs) → follows same (x ∷ xs) x ≡ false
  first_not x xs c = false_from_ne_true _ (λ e. let w = list_any_which (λ i. ltb i x && same i x) (x ∷ xs) e in below w.0 w.1 (ltb-true w.0 x (and_parts (ltb w.0 x) (same w.0 x) w.2).0))
    where
      below : (i : ℕ) → Listed i (x ∷ xs) → i < x → ⊥
      below i (inl e) l = omega arith
      below i (inr h) l = let m = c.0 i h in omega arith

  pub kept_once : (xs : List ℕ) → Climbs xs → ((i j : ℕ) → Listed i xs → Listed j xs → i < j → same i j ≡ same_row (f i) (f j)) → map f (filter (λ j. not (follows same xs j)) xs) ≡ distinct (map f xs)
  unfolding distinct
  kept_once [] c h = refl
  kept_once (x ∷ xs) c h =
      ap (λ (b : Bool). map f (cond (not b) (x ∷ filter (λ j. not (follows same (x ∷ xs) j)) xs) (filter (λ j. not (follows same (x ∷ xs) j)) xs))) (first_not x xs c)
      ∙ ap (λ (ys : List Row). f x ∷ ys)
      (ap (map f) (alike (follows same (x ∷ xs)) (λ y. same_row (f x) (f y) || follows same xs y) xs later ∙ both (λ y. same_row (f x) (f y)) (follows same xs) xs)
      ∙ through f (λ other. not (same_row (f x) other)) (filter (λ j. not (follows same xs j)) xs)
      ∙ ap (filter (λ other. not (same_row (f x) other))) (kept_once xs c.1 (λ i j l m. h i j (inr l) (inr m))))
    where
      later : (y : ℕ) → Listed y xs → follows same (x ∷ xs) y ≡ (same_row (f x) (f y) || follows same xs y)
      later y l = ap (λ b. b || follows same xs y) (ap (λ b. b && same x y) (lt-ltb x y (c.0 y l)) ∙ h x y (inl refl) (inr l) (c.0 y l))

-- ---- the parts of rows
map_same : (f g : ℕ → Cell) (ks : List ℕ) → ((k : ℕ) → Listed k ks → f k ≡ g k) → map f ks ≡ map g ks
map_same f g [] h = refl
map_same f g (k ∷ ks) h = ap₂ (λ (c : Cell) (cs : Row). c ∷ cs) (h k (inl refl)) (map_same f g ks (λ j l. h j (inr l)))

map_at : (f g : ℕ → Cell) (k : ℕ) (ks : List ℕ) → map f ks ≡ map g ks → Listed k ks → f k ≡ g k
map_at f g k [] e h = absurd h
map_at f g k (j ∷ ks) e (inl i) = let first : f j ≡ g j = cc in ap f i ∙ first ∙ sym (ap g i)
map_at f g k (j ∷ ks) e (inr h) = let rest : map f ks ≡ map g ks = cc in map_at f g k ks rest h

module _ (s : CodeTable) (r : RowState) (x : ℕ) (is : IsRowState r) (shows : Shows s r) (equal : r.nulls ≡ nulls.Equal) (inside : x < 2 ^ width r) where
  cells_same : (i j : ℕ) → IsSubset x (agree_of r i j) → (k : ℕ) → has x k ≡ true → cell (row r i) k ≡ cell (row r j) k
  cells_same i j sub k h = subst (λ (n : Nulls). Agrees n (cell (row r i) k) (cell (row r j) k)) equal (agree-parts r.nulls (width r) (row r i) (row r j) k (sub.each k h)).1

  agree_same_cells : (i j : ℕ) → ((k : ℕ) → has x k ≡ true → cell (row r i) k ≡ cell (row r j) k) → IsSubset x (agree_of r i j)
  agree_same_cells i j h = record {
    each = λ k e. agree-from r.nulls (width r) (row r i) (row r j) k (has_within x (width r) k inside e)
        (subst (λ (n : Nulls). Agrees n (cell (row r i) k) (cell (row r j) k)) (sym equal) (h k e));
  }

  parts_tell : (i j : ℕ) → Listed i r.live → Listed j r.live → i < j → agree_on s x i j ≡ same_row (part x (row r i)) (part x (row r j))
  unfolding part
  parts_tell i j l m lt = same_test _ _
      (λ e. true-same_row (part x (row r i)) (part x (row r j)) (map_same (cell (row r i)) (cell (row r j)) (columns x)
      (λ k h. cells_same i j (subst (IsSubset x) shown (agree_on-subset s x i j e)) k (columns-listed x k h))))
      (λ e. subset-agree_on s x i j (subst (IsSubset x) (sym shown) (agree_same_cells i j
      (λ k h. map_at (cell (row r i)) (cell (row r j)) k (columns x) (same_row-true (part x (row r i)) (part x (row r j)) e) (Listed-columns x k h)))))
    where
      shown : code_agree s i j ≡ agree_of r i j
      shown = code_agree-shown s r is shows i j (Contains-listed i r.live l) (Contains-listed j r.live m) (λ e. omega arith)

  pub parts-projected : (rows : List ℕ) → rows ≡ first_rows s x → map (λ number. part x (row r number)) rows ≡ projection r x
  unfolding first_rows projection projected
  parts-projected rows e =
      ap (map (λ number. part x (row r number))) (e ∙ ap (λ (live : List ℕ). filter (λ j. not (follows (agree_on s x) live j)) live) (live_numbers-shown s r is shows))
      ∙ kept_once (λ number. part x (row r number)) (agree_on s x) r.live (subst Climbs (live_numbers-shown s r is shows) (Climbs-live_numbers s)) parts_tell
      ∙ ap distinct (twice r.live)
    where
      twice : (ns : List ℕ) → map (λ number. part x (row r number)) ns ≡ map (part x) (map (row r) ns)
      twice [] = refl
      twice (n ∷ ns) = ap (λ (ps : List Row). part x (row r n) ∷ ps) (twice ns)
