-- The inclusions of one more column, in one more column.
use Rattle.std.proofs.Common.{◌≡◌, ◌∙◌, ◌+◌, ℕ, arith, Bool, true, false, cond, not, ◌&&◌, ◌||◌, ◌<◌, ◌≤◌, eqb, sym, ap, ap₂, List, [], ◌∷◌, ◌++◌, map, filter, flat_map, length, get_or, append_assoc, append-nil}
use Rattle.std.specs.List.{list_all, list_any}
use Rattle.std.proofs.lemmas.Bool.{eq-eqb, ne_eqb}
use Rattle.std.proofs.lemmas.List.{map-append, get_or_default}
use Rattle.std.proofs.lemmas.List.Concat.{flat_map-append}
use Rattle.std.proofs.lemmas.List.Elements.{filter-append}
use Rattle.col_set.specs.ColSet.{upto}
use Rattle.rel_base.specs.Cells.{Cell}
use Rattle.rel_base.specs.Agreement.{same_cell}
use Rattle.rel_base.specs.Inclusion.{included, inclusions}
use Rattle.plain_base.proofs.Pairs.{upto_more}

-- a column with each of these
abbrev pub pairs_from : ℕ → List ℕ → List (ℕ × ℕ)
pairs_from c ds = map (λ d. (c, d)) ds

module _ (p : ℕ × ℕ → Bool) where
  row_more : (c n : ℕ) → filter p (pairs_from c (upto (n + 1))) ≡ filter p (pairs_from c (upto n)) ++ cond (p (c, n)) ((c, n) ∷ []) []
  row_more c n =
      ap (λ (is : List ℕ). filter p (pairs_from c is)) (upto_more n) ∙ ap (λ xs. filter p xs) (map-append (λ (d : ℕ). (c, d)) (upto n) (n ∷ [])) ∙ filter-append p (pairs_from c (upto n)) ((c, n) ∷ [])

  pub rows_more : (columns n : ℕ) → filter p (flat_map (λ c. pairs_from c (upto columns)) (upto (n + 1))) ≡ filter p (flat_map (λ c. pairs_from c (upto columns)) (upto n)) ++ filter p (pairs_from n (upto columns))
  rows_more columns n =
      let f : ℕ → List (ℕ × ℕ) = λ c. pairs_from c (upto columns) in
      ap (λ (is : List ℕ). filter p (flat_map f is)) (upto_more n) ∙ ap (λ xs. filter p xs) (flat_map-append f (upto n) (n ∷ [])) ∙ filter-append p (flat_map f (upto n)) (f n ++ [])
      ∙ ap (λ (xs : List (ℕ × ℕ)). filter p (flat_map f (upto n)) ++ filter p xs) (append-nil (f n))

  module _ (c n : ℕ) (start before now : List (ℕ × ℕ)) (so_far : before ≡ start ++ filter p (pairs_from c (upto n))) where
    pub row_pushed : p (c, n) ≡ true → now ≡ before ++ (c, n) ∷ [] → now ≡ start ++ filter p (pairs_from c (upto (n + 1)))
    row_pushed passes is =
        is ∙ ap (λ (xs : List (ℕ × ℕ)). xs ++ (c, n) ∷ []) so_far ∙ append_assoc start (filter p (pairs_from c (upto n))) ((c, n) ∷ [])
        ∙ ap (λ (xs : List (ℕ × ℕ)). start ++ xs) (sym (row_more c n ∙ ap (λ b. filter p (pairs_from c (upto n)) ++ cond b ((c, n) ∷ []) []) passes))

    pub row_left : p (c, n) ≡ false → now ≡ before → now ≡ start ++ filter p (pairs_from c (upto (n + 1)))
    row_left fails is =
        is ∙ so_far
        ∙ ap (λ (xs : List (ℕ × ℕ)). start ++ xs)
        (sym (row_more c n ∙ ap (λ b. filter p (pairs_from c (upto n)) ++ cond b ((c, n) ∷ []) []) fails ∙ append-nil (filter p (pairs_from c (upto n)))))

-- ---- one inclusion
pub included-apart : (columns : List (List Cell)) (c d : ℕ) (a b : List Cell) → c < length columns → d < length columns → (c ≡ d → ⊥) → a ≡ get_or columns c a → b ≡ get_or columns d b
    → list_all (λ x. same_cell x [] || list_any (same_cell x) b) a ≡ included columns c d
unfolding included
included-apart columns c d a b l m ne e f =
    ap₂ (λ (xs ys : List Cell). list_all (λ x. same_cell x [] || list_any (same_cell x) ys) xs) (e ∙ get_or_default columns c a [] l) (f ∙ get_or_default columns d b [] m)
    ∙ sym (ap (λ i. not i && list_all (λ x. same_cell x [] || list_any (same_cell x) (get_or columns d [])) (get_or columns c [])) (ne_eqb c d ne))

pub included-itself : (columns : List (List Cell)) (c d : ℕ) → c ≡ d → not (eqb c d) ≡ included columns c d
unfolding included
included-itself columns c d e =
    ap not (eq-eqb c d e) ∙ sym (ap (λ i. not i && list_all (λ x. same_cell x [] || list_any (same_cell x) (get_or columns d [])) (get_or columns c [])) (eq-eqb c d e))

pub inclusions-all : (columns : List (List Cell)) (n : ℕ) → n ≤ length columns → length columns ≤ n
    → filter (λ p. included columns p.0 p.1) (flat_map (λ c. pairs_from c (upto (length columns))) (upto n)) ≡ inclusions columns
unfolding inclusions
inclusions-all columns n l m = ap (λ (k : ℕ). filter (λ p. included columns p.0 p.1) (flat_map (λ c. pairs_from c (upto (length columns))) (upto k))) (let e : n ≡ length columns = omega arith in e)
