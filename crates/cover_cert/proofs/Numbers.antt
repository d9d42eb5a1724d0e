-- A number in plain decimal, and columns with a space between, are read back.
use Rattle.std.proofs.Common.{inl, inr, ◌≡◌, ◌≢◌, ℕ, ◌+◌, ◌-◌, ◌/◌, ◌%◌, ◌<◌, ◌≤◌, ◌^◌, Bool, true, false, cond, not, ◌||◌, eqb, leb, refl, sym, ap, ◌∙◌, subst, arith, List, [], ◌∷◌, ◌++◌, length, get_or, map, Some, None}
use Rattle.std.specs.Prelude.{decimal, option_map, slice_index}
use Rattle.std.specs.Char.{is_ascii_digit}
use Rattle.std.specs.List.{list_all, join_with_byte, filter}
use Rattle.std.specs.Str.Parse.{digits_value}
use Rattle.std.proofs.lemmas.Bool.{eq-eqb, ne_eqb, le-leb, leb-true, and_from, and_parts, cases_eq}
use Rattle.std.proofs.lemmas.List.{length-append}
use Rattle.std.proofs.lemmas.Fmt.{decimal_by_steps, decimal_digit, length-decimal-le, decimal_nonempty, decimal_is_IsNumeral}
use Rattle.col_set.specs.ColSet.{Columns, columns, set_of, upto, has}
use Rattle.col_set.specs.AllSets.{set_of-columns, Ascends, Ascends-range, Ascends-weaker}
use Rattle.col_set.specs.Columns.{columns_below}
use Rattle.rel_base.specs.Cells.{Cell}
use Rattle.cover_cert.specs.Fields.{is_plain, value_of, at_most, number, column_numbered, column_of, before_words, words, ascending_with, ascending, columns_of}
use Rattle.report_text.specs.Field.{columns_text}

-- ---- digits
abbrev AreDigits : List ℕ → Type 0
AreDigits ds = list_all is_ascii_digit ds ≡ true

digits-more : (ds : List ℕ) (d : ℕ) → AreDigits ds → is_ascii_digit d ≡ true → AreDigits (ds ++ (d ∷ []))
digits-more [] d h e = and_from _ _ e refl
digits-more (x ∷ ds) d h e = let p = and_parts (is_ascii_digit x) (list_all is_ascii_digit ds) h in and_from _ _ p.0 (digits-more ds d p.1 e)

is-digit : (m : ℕ) → m < 10 → is_ascii_digit (48 + m) ≡ true
is-digit m l = and_from _ _ (le-leb 48 (48 + m) (omega arith)) (le-leb (48 + m) 57 (omega arith))

are_digits : (n : ℕ) → n < 2 ^ 64 → AreDigits (decimal n)
are_digits = decimal_by_steps (λ m ds. AreDigits ds) (λ m l. and_from _ _ (is-digit m l) refl) (λ m ds l h. digits-more ds (48 + m % 10) h (is-digit (m % 10) (omega arith)))

-- the first digit of a number above 0 is no 0
abbrev Leads : ℕ → List ℕ → Type 0
Leads m ds = (0 < length ds) × (0 < m → get_or ds 0 0 ≢ 48)

leads : (n : ℕ) → n < 2 ^ 64 → Leads n (decimal n)
leads = decimal_by_steps Leads one more
  where
    one : (m : ℕ) → m < 10 → Leads m ((48 + m) ∷ [])
    one m l = ((omega arith), (λ some e. absurd (omega arith)))

    more : (m : ℕ) (ds : List ℕ) → 10 ≤ m → Leads (m / 10) ds → Leads m (ds ++ ((48 + m % 10) ∷ []))
    more m [] l h = absurd (let s = h.0 in omega arith)
    more m (x ∷ ds) l h = ((omega arith), (λ some. h.1 (omega arith)))

-- ---- numbers
pub plain-decimal : (n : ℕ) → n ≤ 4294967295 → is_plain (decimal n) ≡ true
plain-decimal n l =
    let some = decimal_nonempty n (omega arith) in
    let few = length-decimal-le 10 n (omega arith) (omega arith) (omega arith) in
    and_from _ _ (and_from _ _ (le-leb 1 (length (decimal n)) (omega arith)) (le-leb (length (decimal n)) 10 few)) (elim (cases_eq n 0) [
      | inl none ↦ or-left (eqb (length (decimal n)) 1) _ (eq-eqb (length (decimal n)) 1 (ap (λ (m : ℕ). length (decimal m)) none ∙ ap length (decimal_digit 0 (omega arith))))
      | inr some ↦ or-right (eqb (length (decimal n)) 1) _ (ap not (ne_eqb (slice_index (decimal n) 0) 48 ((leads n (omega arith)).1 (omega arith))))
    ])
  where
    or-left : (a b : Bool) → a ≡ true → (a || b) ≡ true
    or-left a b e = ap (λ x. x || b) e

    or-right : (a b : Bool) → b ≡ true → (a || b) ≡ true
    or-right true b e = refl
    or-right false b e = e

pub number-decimal : (n : ℕ) → n ≤ 4294967295 → number (decimal n) ≡ Some n
unfolding number
number-decimal n l =
    let value : value_of (decimal n) ≡ Some n = ap (λ b. cond b (Some (digits_value 10 (decimal n))) None) (are_digits n (omega arith)) ∙ ap Some ((decimal_is_IsNumeral n (omega arith)).1) in
    ap (λ b. cond b (at_most 4294967295 (value_of (decimal n))) None) (plain-decimal n l)
    ∙ ap (at_most 4294967295) value ∙ ap (λ b. cond b (Some n) None) (le-leb n 4294967295 l)

-- ---- columns
pub column_of-decimal : (c : ℕ) → c < 128 → column_of (decimal (c + 1)) ≡ Some c
column_of-decimal c l =
    let more : c + 1 - 1 ≡ c = omega arith in
    ap column_numbered (number-decimal (c + 1) (omega arith))
    ∙ ap (λ b. cond b (Some (c + 1 - 1)) None) (and_from _ _ (le-leb 1 (c + 1) (omega arith)) (le-leb (c + 1) 128 (omega arith)))
    ∙ ap Some more

-- digits up to a space, or to the end, are one word
words-space : (xs rest : Cell) → AreDigits xs → words (xs ++ (32 ∷ rest)) ≡ xs ∷ words rest
unfolding words
words-space [] rest d = refl
words-space (x ∷ xs) rest d =
    let p = and_parts (is_ascii_digit x) (list_all is_ascii_digit xs) d in
    ap (λ b. cond b ([] ∷ words (xs ++ (32 ∷ rest))) (before_words x (words (xs ++ (32 ∷ rest))))) (no-space x p.0)
    ∙ ap (before_words x) (words-space xs rest p.1)
  where
    no-space : (x : ℕ) → is_ascii_digit x ≡ true → eqb x 32 ≡ false
    no-space x e = let l = leb-true 48 x ((and_parts (leb 48 x) (leb x 57) e).0) in ne_eqb x 32 (λ same. omega arith)

words-end : (xs : Cell) → AreDigits xs → words xs ≡ xs ∷ []
unfolding words
words-end [] d = refl
words-end (x ∷ xs) d =
    let p = and_parts (is_ascii_digit x) (list_all is_ascii_digit xs) d in
    ap (λ b. cond b ([] ∷ words xs) (before_words x (words xs))) (no-space x p.0)
    ∙ ap (before_words x) (words-end xs p.1)
  where
    no-space : (x : ℕ) → is_ascii_digit x ≡ true → eqb x 32 ≡ false
    no-space x e = let l = leb-true 48 x ((and_parts (leb 48 x) (leb x 57) e).0) in ne_eqb x 32 (λ same. omega arith)

abbrev text_of : ℕ → Cell
text_of c = decimal (c + 1)

words-joined : (c : ℕ) (cs : List ℕ) → Ascends 0 128 (c ∷ cs) → words (join_with_byte 32 (map text_of (c ∷ cs))) ≡ map text_of (c ∷ cs)
words-joined c [] r = words-end (text_of c) (are_digits (c + 1) (let l = r.1 in omega arith))
words-joined c (d ∷ cs) r =
    words-space (text_of c) (join_with_byte 32 (map text_of (d ∷ cs))) (are_digits (c + 1) (let l = r.1 in omega arith))
    ∙ ap (λ ws. text_of c ∷ ws) (words-joined d cs (Ascends-weaker 0 (c + 1) 128 (d ∷ cs) (omega arith) r.2))

ascending-columns : (a : ℕ) (cs : List ℕ) → Ascends a 128 cs → ascending a (map text_of cs) ≡ Some cs
unfolding ascending
ascending-columns a [] r = refl
ascending-columns a (c ∷ cs) r =
    let low = r.0 in
    ap (λ o. ascending_with a o (λ next. ascending next (map text_of cs))) (column_of-decimal c r.1)
    ∙ ap (λ b. cond b (option_map (λ ds. c ∷ ds) (ascending (c + 1) (map text_of cs))) None) (le-leb a c low)
    ∙ ap (option_map (λ ds. c ∷ ds)) (ascending-columns (c + 1) cs r.2)

some-field : (text : Cell) → 0 < length text → columns_of text ≡ option_map set_of (ascending 0 (words text))
unfolding columns_of
some-field [] some = absurd (omega arith)
some-field (b ∷ bs) some = refl

joined-some : (c : ℕ) (cs : List ℕ) → c < 128 → 0 < length (join_with_byte 32 (map text_of (c ∷ cs)))
joined-some c [] l = decimal_nonempty (c + 1) (omega arith)
joined-some c (d ∷ cs) l = let some = decimal_nonempty (c + 1) (omega arith) in omega (arith, length-append (text_of c) (32 ∷ join_with_byte 32 (map text_of (d ∷ cs))))

columns-from : (cs : List ℕ) → Ascends 0 128 cs → columns_of (join_with_byte 32 (map text_of cs)) ≡ Some (set_of cs)
unfolding columns_of
columns-from [] r = refl
columns-from (c ∷ cs) r =
    some-field (join_with_byte 32 (map text_of (c ∷ cs))) (joined-some c cs r.1)
    ∙ ap (λ ws. option_map set_of (ascending 0 ws)) (words-joined c cs r)
    ∙ ap (option_map set_of) (ascending-columns 0 (c ∷ cs) r)

ascends-filter : (p : ℕ → Bool) (a b : ℕ) (xs : List ℕ) → Ascends a b xs → Ascends a b (filter p xs)
ascends-filter p a b [] r = tt
ascends-filter p a b (x ∷ xs) r = by (p x) (ascends-filter p (x + 1) b xs r.2)
  where
    by : (t : Bool) → Ascends (x + 1) b (filter p xs) → Ascends a b (cond t (x ∷ filter p xs) (filter p xs))
    by true h = (r.0, r.1, h)
    by false h = let l = r.0 in Ascends-weaker a (x + 1) b (filter p xs) (omega arith) h

pub columns_of-text : (x : Columns) → x < 2 ^ 128 → columns_of (columns_text x) ≡ Some x
unfolding columns_text
columns_of-text x l =
    columns-from (columns x) (subst (Ascends 0 128) (sym (columns_below 128 x l)) (ascends-filter (has x) 0 128 (upto 128) (Ascends-range 128 0 128 refl)))
    ∙ ap Some (set_of-columns x)
