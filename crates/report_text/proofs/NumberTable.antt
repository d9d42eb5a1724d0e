-- A table of the texts of numbers, and a line that takes one of them.
use Rattle.std.proofs.Common.{◌≡◌, ◌≢◌, ℕ, suc, ◌+◌, ◌<◌, ◌≤◌, List, [], ◌∷◌, ◌++◌, length, take, get_or, set, get_or-set_same, get_or-set_other, length-set, length-take, length-take-le, sym, ap, ap₂, ◌∙◌, append_assoc, arith}
use Rattle.std.specs.Prelude.{decimal}
use Rattle.std.proofs.Math.Seq.{take-append-add, take-suc-set}
use Rattle.std.proofs.lemmas.List.{take-append-le}
use borrow.Author.Count.{below_more}
use borrow.Rule.Slice.PartMut.{put_mid, post_of}
use Rattle.report_text.specs.Numbers.{IsNumberText}

-- the texts of the numbers below `n`
pub record FilledTo (texts : List (List ℕ)) (counts : List ℕ) (n : ℕ) : Type 0 where
  pub texts_room : length texts ≡ 257
  pub counts_room : length counts ≡ 257
  pub each : (k : ℕ) → k < n → IsNumberText k (get_or counts k 0) (get_or texts k [])

pub filled-more : (texts : List (List ℕ)) (counts text digits : List ℕ) (n : ℕ) → n < 257 → digits ≡ decimal n → length digits ≤ 3 → take (length digits) text ≡ digits
    → FilledTo texts counts n → FilledTo (set texts n text) (set counts n (length digits)) (n + 1)
filled-more texts counts text digits n room is short front so_far = record {
  texts_room = length-set texts n text ∙ so_far.texts_room;
  counts_room = length-set counts n (length digits) ∙ so_far.counts_room;
  each = below_more (λ k. IsNumberText k (get_or (set counts n (length digits)) k 0) (get_or (set texts n text) k [])) n
      (λ k lt. let other : k ≢ n = λ e. omega arith in rw (get_or-set_other counts n k (length digits) 0 other, get_or-set_other texts n k text [] other) (so_far.each k lt))
      (rw (get_or-set_same counts n (length digits) 0 (omega (arith, so_far.counts_room)), get_or-set_same texts n text [] (omega (arith, so_far.texts_room)))
      (record { counted = ap length is; short = short; digits = front ∙ is }));
}

-- one more byte behind what stands in front
front-set : (bytes front : List ℕ) (at byte : ℕ) → at < length bytes → take at bytes ≡ front → take (at + 1) (set bytes at byte) ≡ front ++ byte ∷ []
front-set bytes front at byte lt before =
    let one : at + 1 ≡ suc at = omega arith in
    ap (λ n. take n (set bytes at byte)) one ∙ take-suc-set bytes at byte lt ∙ ap (λ t. t ++ byte ∷ []) before

-- a separator, and the first bytes of a text that is copied behind it
pub number-after : (bytes text front digits : List ℕ) (at width count separator : ℕ) → at < length bytes → take at bytes ≡ front → count ≡ length digits → take count text ≡ digits
    → take (at + 1 + count) (put_mid (at + 1) width (set bytes at separator) text) ≡ front ++ separator ∷ digits
number-after bytes text front digits at width count separator lt before size_is is =
    let within : count ≤ length text = omega (arith, size_is, ap length is, length-take count text) in
    let set_here = set bytes at separator in
    let rest = post_of (at + 1) width set_here in
    let start = take (at + 1) set_here in
    let size : length start ≡ at + 1 = length-take-le (at + 1) set_here (omega (arith, length-set bytes at separator)) in
    ap (λ m. take (m + count) (start ++ (text ++ rest))) (sym size) ∙ take-append-add start (text ++ rest) count
    ∙ ap₂ (λ (xs ys : List ℕ). xs ++ ys) (front-set bytes front at separator lt before) (take-append-le count text rest within ∙ is)
    ∙ append_assoc front (separator ∷ []) digits
