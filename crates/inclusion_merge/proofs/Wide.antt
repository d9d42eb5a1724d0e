-- What `has_wide` answers of each operation on sets in parts.
use Rattle.std.proofs.Common.{◌≡◌, ◌∙◌, ◌⊎◌, inl, inr, ◌&&◌, ◌||◌, ◌+◌, ◌*◌, ◌/◌, ◌%◌, ◌<◌, ◌≤◌, ℕ, zero, suc, arith, Bool, true, false, eqb, refl, sym, ap, ap₂, List, [], ◌∷◌, ◌++◌, length, drop, get_or, set, replicate}
use Rattle.std.proofs.lemmas.Bool.{cases_eq, cases_lt, eq-eqb, lt-ltb, ne_eqb}
use Rattle.std.proofs.lemmas.List.{get_or-drop, get_or-replicate, get_or-set_other, get_or-set_same, get_or_past}
use Rattle.col_set.specs.ColSet.{Columns, all, has, inter, with}
use Rattle.col_set.specs.Members.{has-all, has-empty, has-inter, has-with}
use Rattle.inclusion_merge.specs.WideSet.{has_wide}
use Rattle.inclusion_merge.proofs.Places.{row_within}

pub has_wide-at : (parts : List Columns) (k : ℕ) → has_wide parts k ≡ has (get_or parts (k / 128) 0) (k % 128)
unfolding has_wide
has_wide-at parts k = refl

pub has_wide-drop : (parts : List Columns) (from k : ℕ) → has_wide (drop from parts) k ≡ has (get_or parts (from + k / 128) 0) (k % 128)
unfolding has_wide
has_wide-drop parts from k = ap (λ (x : Columns). has x (k % 128)) (get_or-drop from parts (k / 128) 0)

pub has_wide-none : (parts : List Columns) → ((place : ℕ) → place < length parts → get_or parts place 0 ≡ 0) → (k : ℕ) → has_wide parts k ≡ false
unfolding has_wide
has_wide-none parts none k = ap (λ (x : Columns). has x (k % 128)) here ∙ has-empty (k % 128)
  where
    here : get_or parts (k / 128) 0 ≡ 0
    here = elim (cases_lt (k / 128) (length parts)) [ inl h ↦ none (k / 128) h | inr h ↦ get_or_past parts (k / 128) 0 h ]

or-false : (b : Bool) → b ≡ (b || false)
or-false true = refl
or-false false = refl

same_rest : (k c : ℕ) → k / 128 ≡ c / 128 → eqb (k % 128) (c % 128) ≡ eqb k c
same_rest k c same = elim (cases_eq k c) as (λ _. eqb (k % 128) (c % 128) ≡ eqb k c) [
  | inl e ↦ eq-eqb (k % 128) (c % 128) (ap (λ (n : ℕ). n % 128) e) ∙ sym (eq-eqb k c e)
  | inr other ↦ ne_eqb (k % 128) (c % 128) (λ e. other (omega arith)) ∙ sym (ne_eqb k c other)
]

pub has_wide-insert : (parts : List Columns) (c k : ℕ) → c < 128 * length parts → has_wide (set parts (c / 128) (with (get_or parts (c / 128) 0) (c % 128))) k ≡ (has_wide parts k || eqb k c)
unfolding has_wide
has_wide-insert parts c k l = go (cases_eq (k / 128) (c / 128))
  where
    go : (k / 128 ≡ c / 128) ⊎ (k / 128 ≡ c / 128 → ⊥)
        → has (get_or (set parts (c / 128) (with (get_or parts (c / 128) 0) (c % 128))) (k / 128) 0) (k % 128) ≡ (has (get_or parts (k / 128) 0) (k % 128) || eqb k c)
    go (inl same) =
        ap (λ (place : ℕ). has (get_or (set parts (c / 128) (with (get_or parts (c / 128) 0) (c % 128))) place 0) (k % 128)) same
        ∙ ap (λ (x : Columns). has x (k % 128)) (get_or-set_same parts (c / 128) (with (get_or parts (c / 128) 0) (c % 128)) 0 (omega arith))
        ∙ has-with (get_or parts (c / 128) 0) (c % 128) (k % 128)
        ∙ ap₂ (λ (a b : Bool). a || b) (ap (λ (place : ℕ). has (get_or parts place 0) (k % 128)) (sym same)) (same_rest k c same)
    go (inr other) =
        ap (λ (x : Columns). has x (k % 128)) (get_or-set_other parts (c / 128) (k / 128) (with (get_or parts (c / 128) 0) (c % 128)) 0 other)
        ∙ or-false (has (get_or parts (k / 128) 0) (k % 128))
        ∙ ap (λ b. has (get_or parts (k / 128) 0) (k % 128) || b) (sym (ne_eqb k c (λ e. other (ap (λ (n : ℕ). n / 128) e))))

pub replicate_more : {X : Type 0} (n : ℕ) (x : X) → replicate (n + 1) x ≡ replicate n x ++ x ∷ []
replicate_more zero x = refl
replicate_more (suc n) x =
    let e : suc n + 1 ≡ suc (n + 1) = omega arith in
    ap (λ (k : ℕ). replicate k x) e ∙ ap (λ xs. x ∷ xs) (replicate_more n x)

-- a set of all columns among those of as many columns
pub has_wide-all : (columns parts c d : ℕ) → columns ≤ 128 * parts → c < columns → d < columns → has_wide (drop (c * parts) (replicate (columns * parts) (all 128))) d ≡ true
has_wide-all columns parts c d room l m =
    has_wide-drop (replicate (columns * parts) (all 128)) (c * parts) d
    ∙ ap (λ (x : Columns). has x (d % 128)) (get_or-replicate (columns * parts) (c * parts + d / 128) (all 128) 0 (row_within c columns parts (d / 128) l (omega arith)))
    ∙ has-all 128 (d % 128) ∙ lt-ltb (d % 128) 128 (omega arith)

-- a set of all numbers that have a place
pub has_wide-full : (n k : ℕ) → k < 128 * n → has_wide (replicate n (all 128)) k ≡ true
has_wide-full n k l =
    has_wide-at (replicate n (all 128)) k ∙ ap (λ (x : Columns). has x (k % 128)) (get_or-replicate n (k / 128) (all 128) 0 (omega arith)) ∙ has-all 128 (k % 128)
    ∙ lt-ltb (k % 128) 128 (omega arith)

-- a set of columns that is left, less those that another lacks
pub has_wide-common : (old new shared : List Columns) (from d : ℕ) → get_or new (from + d / 128) 0 ≡ inter (get_or old (from + d / 128) 0) (get_or shared (d / 128) 0)
    → has_wide (drop from new) d ≡ (has_wide (drop from old) d && has_wide shared d)
has_wide-common old new shared from d is =
    has_wide-drop new from d ∙ ap (λ (x : Columns). has x (d % 128)) is ∙ has-inter (get_or old (from + d / 128) 0) (get_or shared (d / 128) 0) (d % 128)
    ∙ sym (ap₂ (λ (a b : Bool). a && b) (has_wide-drop old from d) (has_wide-at shared d))

pub has_wide-other : (old new : List Columns) (from d : ℕ) → get_or new (from + d / 128) 0 ≡ get_or old (from + d / 128) 0 → has_wide (drop from new) d ≡ has_wide (drop from old) d
has_wide-other old new from d is = has_wide-drop new from d ∙ ap (λ (x : Columns). has x (d % 128)) is ∙ sym (has_wide-drop old from d)
