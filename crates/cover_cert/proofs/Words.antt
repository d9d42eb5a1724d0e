-- Words between spaces, and columns that they name.
use Rattle.std.proofs.Common.{inl, inr, ◌≡◌, ◌≢◌, ℕ, zero, suc, ◌+◌, ◌<◌, ◌≤◌, Bool, true, false, cond, ◌||◌, eqb, leb, refl, sym, ap, ◌∙◌, arith, List, [], ◌∷◌, length, get_or, take, drop, Option, Some, None, option_map}
use Rattle.std.proofs.lemmas.Bool.{eq-eqb, ne_eqb, le-leb, leb-true, cases_eq}
use Rattle.col_set.specs.ColSet.{empty, has, with, union, set_of}
use Rattle.col_set.specs.Members.{has-empty, has-union, has-with, same_set}
use Rattle.rel_base.specs.Cells.{Cell}
use Rattle.cover_cert.specs.Fields.{before_words, words, words_after, column_of, ascending_with, ascending, columns_of}

-- ---- words
abbrev pub NoSpace : Cell → ℕ → Type 0
NoSpace xs n = (k : ℕ) → k < n → get_or xs k 0 ≢ 32

abbrev step : ℕ → List Cell → Bool → List Cell
step x ws b = cond b ([] ∷ ws) (before_words x ws)

pub words-to : (xs : Cell) (n : ℕ) → n ≤ length xs → (n < length xs → get_or xs n 0 ≡ 32) → NoSpace xs n → words xs ≡ take n xs ∷ words_after (drop n xs)
unfolding words
words-to [] zero l e f = refl
words-to [] (suc n) l e f = absurd (omega arith)
words-to (x ∷ xs) zero l e f = ap (step x (words xs)) (eq-eqb x 32 (e (omega arith)))
words-to (x ∷ xs) (suc n) l e f =
    ap (step x (words xs)) (ne_eqb x 32 (f 0 (omega arith)))
    ∙ ap (before_words x) (words-to xs n (omega arith) (λ m. e (omega arith)) (λ k m. f (suc k) (omega arith)))

pub after-none : (xs : Cell) → length xs ≡ 0 → words_after xs ≡ []
after-none [] e = refl
after-none (x ∷ xs) e = absurd (omega arith)

pub after-some : (xs rest : Cell) → length xs ≢ 0 → rest ≡ drop 1 xs → words_after xs ≡ words rest
after-some [] rest e f = absurd (e refl)
after-some (x ∷ xs) rest e f = ap words (sym f)

pub NoSpace-more : (xs : Cell) (n : ℕ) (x : ℕ) → NoSpace xs n → x ≡ get_or xs n 0 → x ≢ 32 → NoSpace xs (n + 1)
NoSpace-more xs n x f e ne k l = elim (cases_eq k n) as (λ _. get_or xs k 0 ≢ 32) [
  | inl i ↦ (λ d. ne (e ∙ ap (λ (m : ℕ). get_or xs m 0) (sym i) ∙ d))
  | inr other ↦ f k (omega arith)
]

-- ---- columns
-- the set of a field, where these columns have been read, and the next one is at least so great
abbrev pub ColumnsFrom : Cell → ℕ → ℕ → Cell → Type 0
ColumnsFrom field columns least rest = columns_of field ≡ option_map (λ cs. union columns (set_of cs)) (ascending least (words rest))

union-none : (x : ℕ) → union empty x ≡ x
union-none x = same_set _ _ (λ k. has-union empty x k ∙ ap (λ b. b || has x k) (has-empty k))

mapped : (f g : List ℕ → ℕ) (o : Option (List ℕ)) → ((cs : List ℕ) → f cs ≡ g cs) → option_map f o ≡ option_map g o
mapped f g None e = refl
mapped f g (Some cs) e = ap Some (e cs)

pub columns-start : (field : Cell) (columns : ℕ) → length field ≢ 0 → columns ≡ empty → ColumnsFrom field columns 0 field
unfolding columns_of
columns-start [] columns some e = absurd (some refl)
columns-start (b ∷ bs) columns some e = mapped set_of (λ cs. union columns (set_of cs)) (ascending 0 (words (b ∷ bs))) (λ cs. sym (union-none (set_of cs)) ∙ ap (λ (x : ℕ). union x (set_of cs)) (sym e))

pub columns-none : (field : Cell) (columns : ℕ) → length field ≡ 0 → columns ≡ empty → Some columns ≡ columns_of field
unfolding columns_of set_of
columns-none [] columns e f = ap Some f
columns-none (b ∷ bs) columns e f = absurd (omega arith)

reordered : (x s c : ℕ) → union x (with s c) ≡ union (with x c) s
reordered x s c = same_set _ _ (λ k. has-union x (with s c) k ∙ ap (λ b. has x k || b) (has-with s c k) ∙ turned (has x k) (has s k) (eqb k c) ∙ ap (λ b. b || has s k) (sym (has-with x c k)) ∙ sym (has-union (with x c) s k))
  where
    turned : (a b c : Bool) → (a || (b || c)) ≡ ((a || c) || b)
    turned true b c = refl
    turned false true true = refl
    turned false true false = refl
    turned false false true = refl
    turned false false false = refl

-- the words that are left begin with this one
module _ (field : Cell) (columns least : ℕ) (rest word : Cell) (others : List Cell) (from : ColumnsFrom field columns least rest) (is : words rest ≡ word ∷ others) where
  abbrev set_from : List ℕ → ℕ
  set_from cs = union columns (set_of cs)

  first : columns_of field ≡ option_map set_from (ascending_with least (column_of word) (λ next. ascending next others))
  unfolding ascending
  first = from ∙ ap (λ (ws : List Cell). option_map set_from (ascending least ws)) is

  pub no_column : column_of word ≡ None → None ≡ columns_of field
  no_column e = sym (first ∙ ap (λ (o : Option ℕ). option_map set_from (ascending_with least o (λ next. ascending next others))) e)

  module _ (c : ℕ) (column : column_of word ≡ Some c) where
    abbrev tested : Bool → Option (List ℕ)
    tested b = cond b (option_map (λ cs. c ∷ cs) (ascending (c + 1) others)) None

    next : (b : Bool) → leb least c ≡ b → columns_of field ≡ option_map set_from (tested b)
    next b e = first ∙ ap (λ (o : Option ℕ). option_map set_from (ascending_with least o (λ next. ascending next others))) column ∙ ap (λ b. option_map set_from (tested b)) e

    pub falls : c < least → None ≡ columns_of field
    falls l = sym (next false (not_le least c l))
      where
        not_le : (a b : ℕ) → b < a → leb a b ≡ false
        not_le a b l = by (leb a b) refl
          where
            by : (t : Bool) → leb a b ≡ t → leb a b ≡ false
            by true e = let m = leb-true a b e in absurd (omega arith)
            by false e = e

    pub taken : least ≤ c → columns_of field ≡ option_map (λ cs. union (with columns c) (set_of cs)) (ascending (c + 1) others)
    unfolding set_of
    taken l = next true (le-leb least c l) ∙ both (ascending (c + 1) others)
      where
        both : (o : Option (List ℕ)) → option_map set_from (option_map (λ cs. c ∷ cs) o) ≡ option_map (λ cs. union (with columns c) (set_of cs)) o
        both None = refl
        both (Some cs) = ap Some (reordered columns (set_of cs) c)

    pub ended : least ≤ c → others ≡ [] → Some (with columns c) ≡ columns_of field
    unfolding ascending set_of
    ended l e = sym (taken l ∙ ap (λ (ws : List Cell). option_map (λ cs. union (with columns c) (set_of cs)) (ascending (c + 1) ws)) e ∙ ap Some (alone (with columns c)))
      where
        alone : (x : ℕ) → union x empty ≡ x
        alone x = same_set _ _ (λ k. has-union x empty k ∙ ap (λ b. has x k || b) (has-empty k) ∙ or_false (has x k))
          where
            or_false : (b : Bool) → (b || false) ≡ b
            or_false true = refl
            or_false false = refl
