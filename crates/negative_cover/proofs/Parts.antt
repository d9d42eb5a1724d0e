-- A part of two lists of which the second goes on behind the first.
use Rattle.std.proofs.Common.{inl, inr, ◌≡◌, ◌⊎◌, ℕ, ◌+◌, ◌-◌, ◌<◌, ◌≤◌, sym, ap, ap₂, ◌∙◌, arith, List, ◌++◌, length, take, drop}
use lib.Lanes.{chunk}
use Rattle.std.proofs.Math.Seq.{drop-append-add, take-append-add}
use Rattle.std.proofs.lemmas.Bool.{cases_lt}
use Rattle.std.proofs.lemmas.List.{take-append-le, drop-append-le, length-drop, take_all, append-nil}

module _ (xs ys : List ℕ) (start end : ℕ) where
  -- it ends in the first list
  part_near : start ≤ end → end ≤ length xs → chunk start (end - start) xs ≡ chunk start (end - start) (xs ++ ys)
  part_near order within =
      let rest = length-drop start xs in
      sym (ap (take (end - start)) (drop-append-le start xs ys (omega arith)) ∙ take-append-le (end - start) (drop start xs) ys (omega arith))

  -- it begins in the second one
  part_far : length xs ≤ start → chunk (start - length xs) (end - start) ys ≡ chunk start (end - start) (xs ++ ys)
  part_far beyond =
      let place : length xs + (start - length xs) ≡ start = omega arith in
      sym (ap (λ (i : ℕ). take (end - start) (drop i (xs ++ ys))) (sym place) ∙ ap (take (end - start)) (drop-append-add xs ys (start - length xs)))

  -- it lies in both
  part_both : start ≤ length xs → length xs ≤ end → drop start xs ++ take (end - length xs) ys ≡ chunk start (end - start) (xs ++ ys)
  part_both before behind =
      let rest = length-drop start xs in
      let count : length (drop start xs) + (end - length xs) ≡ end - start = omega arith in
      sym (ap (take (end - start)) (drop-append-le start xs ys before) ∙ ap (λ (i : ℕ). take i (drop start xs ++ ys)) (sym count) ∙ take-append-add (drop start xs) ys (end - length xs))

  pub parts : (a n c m : ℕ) → start ≤ end → (start ≤ length xs → a ≡ start) → (end ≤ length xs → n ≡ end - start) → (start ≤ length xs → length xs ≤ end → n ≡ length xs - start) → (length xs ≤ start → n ≡ 0)
      → c ≡ start - length xs → m ≡ end - length xs - c → chunk a n xs ++ chunk c m ys ≡ chunk start (end - start) (xs ++ ys)
  parts a n c m order first short full none second rest = at (cases_lt (length xs) end) (cases_lt start (length xs))
    where
      at : (length xs < end) ⊎ (end ≤ length xs) → (start < length xs) ⊎ (length xs ≤ start) → chunk a n xs ++ chunk c m ys ≡ chunk start (end - start) (xs ++ ys)
      at (inr within) _ =
          let empty : m ≡ 0 = omega arith in
          ap (λ (k : ℕ). chunk a n xs ++ chunk c k ys) empty ∙ append-nil (chunk a n xs)
          ∙ ap₂ (λ (i k : ℕ). chunk i k xs) (first (omega arith)) (short within) ∙ part_near order within
      at (inl beyond) (inr behind) =
          let count : m ≡ end - start = omega arith in
          ap (λ (k : ℕ). chunk a k xs ++ chunk c m ys) (none behind) ∙ ap₂ (λ (i k : ℕ). chunk i k ys) second count ∙ part_far behind
      at (inl beyond) (inl before) =
          let nothing : c ≡ 0 = omega arith in
          let count : m ≡ end - length xs = omega arith in
          let left = length-drop start xs in
          let there = full (omega arith) (omega arith) in
          ap₂ (λ (i k : ℕ). chunk i k xs ++ chunk c m ys) (first (omega arith)) there
          ∙ ap (λ (zs : List ℕ). zs ++ chunk c m ys) (take_all (length xs - start) (drop start xs) (omega arith))
          ∙ ap₂ (λ (i k : ℕ). drop start xs ++ chunk i k ys) nothing count ∙ part_both (omega arith) (omega arith)
