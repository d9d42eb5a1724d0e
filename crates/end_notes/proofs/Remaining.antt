-- Records that a reader has left, and those that came before them.
use Rattle.std.proofs.Common.{◌≡◌, ◌≤◌, ◌<◌, ◌+◌, ◌∷◌, [], ℕ, List, length, drop, get_or, suc, zero, sym, ap, ◌∙◌, arith}
use Rattle.std.proofs.Math.Seq.{drop-cons}
use Rattle.rel_base.specs.Cells.{Row}

none_some : (x : Row) (xs : List Row) → [] ≡ x ∷ xs → ⊥
none_some x xs e = cc

pub no_more : (xs : List Row) (k : ℕ) (left : List Row) → left ≡ drop k xs → left ≡ [] → length xs ≤ k
no_more [] k left e n = omega arith
no_more (x ∷ xs) zero left e n = absurd (none_some x xs (sym n ∙ e))
no_more (x ∷ xs) (suc k) left e n = let r = no_more xs k left e n in omega arith

below : (xs : List Row) (k : ℕ) (x : Row) (rest : List Row) → drop k xs ≡ x ∷ rest → k < length xs
below [] zero x rest e = absurd (none_some x rest e)
below [] (suc k) x rest e = absurd (none_some x rest e)
below (y ∷ xs) zero x rest e = omega arith
below (y ∷ xs) (suc k) x rest e = let r = below xs k x rest e in omega arith

pub one_more : (xs : List Row) (k : ℕ) (left : List Row) (x : Row) (rest : List Row) → left ≡ drop k xs → left ≡ x ∷ rest → (rest ≡ drop (k + 1) xs) × (k + 1 ≤ length xs)
one_more xs k left x rest e is =
    let l = below xs k x rest (sym e ∙ is) in
    let c : drop k xs ≡ get_or xs k [] ∷ drop (suc k) xs = drop-cons xs k [] l in
    let r : rest ≡ drop (suc k) xs = cc in
    (r ∙ ap (λ (n : ℕ). drop n xs) (let n : suc k ≡ k + 1 = omega arith in n), omega arith)
