-- What rows agree on, column by column and word by word.
use Rattle.std.proofs.Common.{◌≡◌, ℕ, ◌+◌, ◌*◌, ◌-◌, ◌^◌, ◌<◌, ◌≤◌, Bool, true, false, cond, eqb, refl, sym, ap, ap₂, ◌∙◌, subst, arith, List, [], length, get_or, take, drop}
use lib.Lanes.{chunk}
use mir.Val.{bool_byte}
use Rattle.std.specs.List.{All}
use Rattle.std.proofs.lemmas.Bool.{eqb-true, eq-eqb}
use Rattle.std.proofs.lemmas.List.{get_or-map, get_or-drop, length-map, length-drop, take_all}
use Rattle.std.proofs.lemmas.Grind.{get_or_default_zero}
use Rattle.std.proofs.lemmas.Simd.{length-chunk}
use Rattle.col_set.specs.ColSet.{has, upto}
use Rattle.col_set.specs.Members.{same_set}
use Rattle.col_set.specs.Subsets.{same_test}
use Rattle.col_set.specs.AllSets.{set_of-has, has-set_of, Listed-upto, Listed-upto_within}
use Rattle.col_set.specs.Lists.{Listed-filter, Listed-filter_parts}
use Rattle.agree_sets.specs.Agreement.{agree_set, agreement_bits}
use Rattle.agree_sets.proofs.Masks.{agreement_bits-add, agreement_bits-lt, agreement_bits-one}
use Rattle.agree_sets.proofs.Places.{agree_set-parts, agree_set-from, bits-agree_set}
use Rattle.rel_base.specs.CodeTable.{CodeTable, code_at}
use Rattle.rel_base.specs.Shows.{code_agree}
use Rattle.negative_cover.specs.AgreeBits.{codes_of, agree_bits}

pub below_all : (n : ℕ) (xs : List ℕ) → ((k : ℕ) → k < length xs → get_or xs k 0 < n) → All (λ x. x < n) xs
below_all n xs f k d l = subst (λ (x : ℕ). x < n) (sym (get_or_default_zero xs k d l)) (f k l)

byte_bit : (e : Bool) → bool_byte e ≡ cond e 1 0
byte_bit true = refl
byte_bit false = refl

module _ (s : CodeTable) where
  -- ---- a row's codes
  codes_long : (i : ℕ) → length (codes_of s i) ≡ length s.codes
  codes_long i = length-map s.codes (λ (codes : List ℕ). get_or codes (i - 1) 0)

  codes_of-at : (i c : ℕ) → c < length s.codes → get_or (codes_of s i) c 0 ≡ code_at s i c
  codes_of-at i c l = get_or-map (λ (codes : List ℕ). get_or codes (i - 1) 0) s.codes c [] 0 l

  code_agree-parts : (i j k : ℕ) → has (code_agree s i j) k ≡ true → (k < length s.codes) × (code_at s i k ≡ code_at s j k)
  unfolding code_agree
  code_agree-parts i j k h =
      let w = Listed-filter_parts (λ c. eqb (code_at s i c) (code_at s j c)) k (upto (length s.codes)) (set_of-has k _ h) in
      (Listed-upto_within (length s.codes) k w.0, eqb-true _ _ w.1)

  code_agree-from : (i j k : ℕ) → k < length s.codes → code_at s i k ≡ code_at s j k → has (code_agree s i j) k ≡ true
  unfolding code_agree
  code_agree-from i j k l e = has-set_of k _ (Listed-filter (λ c. eqb (code_at s i c) (code_at s j c)) k (upto (length s.codes)) (Listed-upto (length s.codes) k l) (eq-eqb _ _ e))

  -- the codes agree where the rows do
  agree_set-codes : (i j : ℕ) → agree_set (codes_of s i) (codes_of s j) ≡ code_agree s i j
  agree_set-codes i j = same_set _ _ (λ k. same_test _ _ (into k) (out k))
    where
      into : (k : ℕ) → has (agree_set (codes_of s i) (codes_of s j)) k ≡ true → has (code_agree s i j) k ≡ true
      into k h =
          let w = agree_set-parts (codes_of s i) (codes_of s j) k h in
          let l : k < length s.codes = (let m = w.0 in let long = codes_long i in omega arith) in
          code_agree-from i j k l (sym (codes_of-at i k l) ∙ w.1 ∙ codes_of-at j k l)

      out : (k : ℕ) → has (code_agree s i j) k ≡ true → has (agree_set (codes_of s i) (codes_of s j)) k ≡ true
      out k h =
          let w = code_agree-parts i j k h in
          let l : k < length (codes_of s i) = (let m = w.0 in let long = codes_long i in omega arith) in
          agree_set-from (codes_of s i) (codes_of s j) k l (codes_of-at i k w.0 ∙ w.1 ∙ sym (codes_of-at j k w.0))

  -- ---- as bits
  pub agree_bits-lt : (i j from n : ℕ) → from + n ≤ length s.codes → agree_bits s i j from n < 2 ^ n
  agree_bits-lt i j from n l =
      agreement_bits-lt n (chunk from n (codes_of s i)) (chunk from n (codes_of s j))
      (length-chunk from n (codes_of s i) (let long = codes_long i in omega arith))
      (length-chunk from n (codes_of s j) (let long = codes_long j in omega arith))

  -- one column more
  agree_bits-more : (i j from n m : ℕ) → from + n < length s.codes → m ≡ n + 1
      → agree_bits s i j from m ≡ agree_bits s i j from n + 2 ^ n * cond (eqb (code_at s i (from + n)) (code_at s j (from + n))) 1 0
  agree_bits-more i j from n m l e =
      let xs = drop from (codes_of s i) in
      let ys = drop from (codes_of s j) in
      let a : n < length xs = (let long = codes_long i in let rest = length-drop from (codes_of s i) in omega arith) in
      let b : n < length ys = (let long = codes_long j in let rest = length-drop from (codes_of s j) in omega arith) in
      let first : get_or xs n 0 ≡ code_at s i (from + n) = get_or-drop from (codes_of s i) n 0 ∙ codes_of-at i (from + n) l in
      let second : get_or ys n 0 ≡ code_at s j (from + n) = get_or-drop from (codes_of s j) n 0 ∙ codes_of-at j (from + n) l in
      ap (λ (k : ℕ). agreement_bits (take k xs) (take k ys)) e
      ∙ agreement_bits-add n 1 xs ys (omega arith) (omega arith)
      ∙ ap (λ (b : ℕ). agreement_bits (take n xs) (take n ys) + 2 ^ n * b)
      (sym (agreement_bits-one n xs ys a b) ∙ byte_bit (eqb (get_or xs n 0) (get_or ys n 0)) ∙ ap₂ (λ (x y : ℕ). cond (eqb x y) 1 0) first second)

  -- the bit of a column, of the row with number first + k, whose code stands at place first - 1 + k
  pub agree_word-more : (first k j from column start at code old new : ℕ) (list : List ℕ) → list ≡ get_or s.codes column [] → code ≡ code_at s j column → start + 1 ≡ first → at ≡ column - from
      → from ≤ column → column < length s.codes → old ≡ agree_bits s (first + k) j from (column - from)
      → new ≡ old + 2 ^ at * cond (eqb (get_or list (start + k) 0) code) 1 0 → new ≡ agree_bits s (first + k) j from (column + 1 - from)
  agree_word-more first k j from column start at code old new list is same behind place order within before step =
      let there : from + (column - from) ≡ column = omega arith in
      let mine : get_or list (start + k) 0 ≡ code_at s (first + k) (from + (column - from)) =
      ap (λ (xs : List ℕ). get_or xs (start + k) 0) (is ∙ ap (λ (c : ℕ). get_or s.codes c []) (sym there))
      ∙ ap (λ (p : ℕ). get_or (get_or s.codes (from + (column - from)) []) p 0) (omega arith) in
      let others : code ≡ code_at s j (from + (column - from)) = same ∙ ap (code_at s j) (sym there) in
      step
      ∙ ap₂ (λ (x n : ℕ). x + 2 ^ n * cond (eqb (get_or list (start + k) 0) code) 1 0) before place
      ∙ ap (λ (b : ℕ). agree_bits s (first + k) j from (column - from) + 2 ^ (column - from) * b) (ap₂ (λ (x y : ℕ). cond (eqb x y) 1 0) mine others)
      ∙ sym (agree_bits-more (first + k) j from (column - from) (column + 1 - from) (omega arith) (omega arith))

  pub agree_word-none : (i j from : ℕ) → agree_bits s i j from 0 ≡ 0
  agree_word-none i j from = refl

  -- the bits of a word above those of the words before it
  pub agree_bits-word : (i j from to old word new : ℕ) → from ≤ to → to ≤ length s.codes → old ≡ agree_bits s i j 0 from → word ≡ agree_bits s i j from (to - from) → new ≡ old + 2 ^ from * word
      → new ≡ agree_bits s i j 0 to
  agree_bits-word i j from to old word new order within before above step =
      step ∙ ap₂ (λ (x y : ℕ). x + 2 ^ from * y) before above
      ∙ sym (agreement_bits-add from (to - from) (codes_of s i) (codes_of s j) (let long = codes_long i in omega arith) (let long = codes_long j in omega arith))
      ∙ ap (λ (k : ℕ). agreement_bits (take k (codes_of s i)) (take k (codes_of s j))) (omega arith)

  -- the bits of all columns
  pub agree_bits-whole : (i j n : ℕ) → length s.codes ≤ n → agree_bits s i j 0 n ≡ code_agree s i j
  agree_bits-whole i j n l =
      ap₂ agreement_bits (take_all n (codes_of s i) (let long = codes_long i in omega arith)) (take_all n (codes_of s j) (let long = codes_long j in omega arith))
      ∙ bits-agree_set (codes_of s i) (codes_of s j) (codes_long i ∙ sym (codes_long j))
      ∙ agree_set-codes i j
