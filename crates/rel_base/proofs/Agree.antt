-- What the agree set of two rows has, and each two of a list.
use Rattle.std.proofs.Common.{inl, inr, ◌≡◌, ◌≢◌, ◌⊎◌, ℕ, ◌<◌, true, false, not, refl, sym, ap, ◌∙◌, subst, arith, List, [], ◌∷◌, map}
use Rattle.std.specs.Cmp.Lexicographic.{bytes_decides}
use Rattle.std.proofs.lemmas.List.Elements.{filter_agree}
use Rattle.std.proofs.lemmas.Bool.{true≢false, not-true, and_parts, and_from, not_from_false, false_from_ne_true}
use Rattle.col_set.specs.ColSet.{has, set_of, upto}
use Rattle.col_set.specs.Lists.{Listed, Listed-append_left, Listed-append_right, Listed-append_cases, Listed-map, Listed-map_which, Listed-filter, Listed-filter_parts}
use Rattle.col_set.specs.Subsets.{same_test}
use Rattle.col_set.specs.AllSets.{set_of-has, has-set_of, Listed-upto, Listed-upto_within}
use Rattle.col_set.proofs.Places.{Climbs}
use Rattle.rel_base.specs.declared.nulls.Nulls.{Nulls}
use Rattle.rel_base.specs.declared.nulls.Nulls.TheVariants.{Equal, Distinct}
use Rattle.rel_base.specs.Cells.{Cell, Row, cell}
use Rattle.rel_base.specs.Agreement.{same_cell, agrees, Agrees, agree}
use Rattle.rel_base.specs.Validity.{pairs}

pub same_cell-true : (a b : Cell) → same_cell a b ≡ true → a ≡ b
same_cell-true a b e = (bytes_decides a b).0 e

pub true-same_cell : (a b : Cell) → a ≡ b → same_cell a b ≡ true
true-same_cell a b e = (bytes_decides a b).1 e

pub false-same_cell : (a b : Cell) → (a ≢ b) → same_cell a b ≡ false
false-same_cell a b ne = false_from_ne_true _ (λ e. ne (same_cell-true a b e))

pub agrees-true : (nulls : Nulls) (a b : Cell) → agrees nulls a b ≡ true → Agrees nulls a b
agrees-true Equal a b e = same_cell-true a b e
agrees-true Distinct a b e = let w = and_parts (same_cell a b) (not (same_cell a [])) e in
    (same_cell-true a b w.0, λ i. true≢false (sym (true-same_cell a [] i) ∙ not-true _ w.1))

pub true-agrees : (nulls : Nulls) (a b : Cell) → Agrees nulls a b → agrees nulls a b ≡ true
true-agrees Equal a b h = true-same_cell a b h
true-agrees Distinct a b h = and_from _ _ (true-same_cell a b h.0) (not_from_false _ (false-same_cell a [] h.1))

pub Agrees-symm : (nulls : Nulls) (a b : Cell) → Agrees nulls a b → Agrees nulls b a
Agrees-symm Equal a b h = sym h
Agrees-symm Distinct a b h = (sym h.0, λ i. h.1 (h.0 ∙ i))

agrees-symm : (nulls : Nulls) (a b : Cell) → agrees nulls a b ≡ agrees nulls b a
agrees-symm nulls a b = same_test _ _
    (λ e. true-agrees nulls b a (Agrees-symm nulls a b (agrees-true nulls a b e)))
    (λ e. true-agrees nulls a b (Agrees-symm nulls b a (agrees-true nulls b a e)))

-- the agree set has the columns in which the cells agree
pub agree-parts : (nulls : Nulls) (n : ℕ) (a b : Row) (k : ℕ) → has (agree nulls n a b) k ≡ true → (k < n) × Agrees nulls (cell a k) (cell b k)
unfolding agree
agree-parts nulls n a b k e =
    let w = Listed-filter_parts (λ k. agrees nulls (cell a k) (cell b k)) k (upto n) (set_of-has k _ e) in
    (Listed-upto_within n k w.0, agrees-true nulls (cell a k) (cell b k) w.1)

pub agree-from : (nulls : Nulls) (n : ℕ) (a b : Row) (k : ℕ) → k < n → Agrees nulls (cell a k) (cell b k) → has (agree nulls n a b) k ≡ true
unfolding agree
agree-from nulls n a b k l h = has-set_of k _ (Listed-filter (λ k. agrees nulls (cell a k) (cell b k)) k (upto n) (Listed-upto n k l) (true-agrees nulls (cell a k) (cell b k) h))

pub agree-symm : (nulls : Nulls) (n : ℕ) (a b : Row) → agree nulls n a b ≡ agree nulls n b a
unfolding agree
agree-symm nulls n a b = ap set_of (filter_agree _ _ (λ k. agrees-symm nulls (cell a k) (cell b k)) (upto n))

-- ---- each element with each later one
module _ {X : Type 0} where
  pub Listed-pairs : (i j : X) (xs : List X) → Listed i xs → Listed j xs → (i ≢ j) → Listed (i, j) (pairs xs) ⊎ Listed (j, i) (pairs xs)
  unfolding pairs
  Listed-pairs i j [] h g ne = absurd h
  Listed-pairs i j (x ∷ xs) (inl e) (inl f) ne = absurd (ne (e ∙ sym f))
  Listed-pairs i j (x ∷ xs) (inl e) (inr g) ne = inl (Listed-append_left (i, j) (map (λ y. (x, y)) xs) (pairs xs) (subst (λ w. Listed {X = X × X} (w, j) (map (λ y. (x, y)) xs)) (sym e) (Listed-map (λ y. (x, y)) j xs g)))
  Listed-pairs i j (x ∷ xs) (inr h) (inl f) ne = inr (Listed-append_left (j, i) (map (λ y. (x, y)) xs) (pairs xs) (subst (λ w. Listed {X = X × X} (w, i) (map (λ y. (x, y)) xs)) (sym f) (Listed-map (λ y. (x, y)) i xs h)))
  Listed-pairs i j (x ∷ xs) (inr h) (inr g) ne = elim (Listed-pairs i j xs h g ne) as (λ _. Listed (i, j) (pairs (x ∷ xs)) ⊎ Listed (j, i) (pairs (x ∷ xs))) [
    | inl w ↦ inl (Listed-append_right (i, j) (map (λ y. (x, y)) xs) (pairs xs) w)
    | inr w ↦ inr (Listed-append_right (j, i) (map (λ y. (x, y)) xs) (pairs xs) w)
  ]

pub record PairOf (xs : List ℕ) (i j : ℕ) : Type 0 where
  pub first : Listed i xs
  pub second : Listed j xs
  pub rising : i < j

pub PairOf-pairs : (xs : List ℕ) (p : ℕ × ℕ) → Climbs xs → Listed p (pairs xs) → PairOf xs p.0 p.1
unfolding pairs
PairOf-pairs [] p r h = absurd h
PairOf-pairs (x ∷ xs) p r h = elim (Listed-append_cases p (map (λ y. (x, y)) xs) (pairs xs) h) as (λ _. PairOf (x ∷ xs) p.0 p.1) [
  | inl g ↦ let w = Listed-map_which (λ y. (x, y)) p xs g in
      subst (λ (q : ℕ × ℕ). PairOf (x ∷ xs) q.0 q.1) (sym w.2) (record { first = inl refl; second = inr w.1; rising = r.0 w.0 w.1 })
  | inr g ↦ let w = PairOf-pairs xs p r.1 g in record { first = inr w.first; second = inr w.second; rising = w.rising }
]

-- of two listed numbers of an ascending list, the smaller stands first
pub Listed-rising : (i j : ℕ) (xs : List ℕ) → Climbs xs → Listed i xs → Listed j xs → i < j → Listed (i, j) (pairs xs)
Listed-rising i j xs r h g l = elim (Listed-pairs i j xs h g (λ e. let f : i ≡ j = e in absurd (omega arith))) as (λ _. Listed (i, j) (pairs xs)) [
  | inl w ↦ w
  | inr w ↦ let b = (PairOf-pairs xs (j, i) r w).rising in absurd (omega arith)
]
