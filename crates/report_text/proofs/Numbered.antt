-- What is made of a numbered list, one element after another.
use Rattle.std.proofs.Common.{◌≡◌, ℕ, ◌+◌, ◌<◌, ◌≤◌, List, [], ◌∷◌, ◌++◌, length, take, get_or, ap, sym, ◌∙◌, arith}
use Rattle.std.specs.List.{enumerate_from, flat_map}
use Rattle.std.proofs.lemmas.List.{flat_map_more, take_more, take_all, get_or_default}
use Rattle.std.proofs.lemmas.List.FromFn.{length-enumerate_from, get_or-enumerate_from}

module _ {X A : Type 0} (f : ℕ × X → List A) where
  -- the next element with its number
  next : (xs : List X) (k : ℕ) (d x : X) → k < length xs → x ≡ get_or xs k d → take (k + 1) (enumerate_from 1 xs) ≡ take k (enumerate_from 1 xs) ++ (k + 1, x) ∷ []
  next xs k d x within at =
      let size = length-enumerate_from 1 xs in
      let number : 1 + k ≡ k + 1 = omega arith in
      take_more (enumerate_from 1 xs) k (k + 1, x) (omega arith)
      ∙ ap (λ p. take k (enumerate_from 1 xs) ++ p ∷ []) (get_or-enumerate_from 1 xs k (k + 1, x) within ∙ ap (λ (n : ℕ). (n, get_or xs k x)) number ∙ ap (λ (y : X). (k + 1, y)) (get_or_default xs k x d within ∙ sym at))

  pub numbered-more : (xs : List X) (k : ℕ) (d x : X) (base old new : List A) → k < length xs → x ≡ get_or xs k d → new ≡ old ++ f (k + 1, x)
      → old ≡ base ++ flat_map f (take k (enumerate_from 1 xs)) → new ≡ base ++ flat_map f (take (k + 1) (enumerate_from 1 xs))
  numbered-more xs k d x base old new within at written so_far =
      rw (next xs k d x within at) (written ∙ ap (λ t. t ++ f (k + 1, x)) so_far ∙ flat_map_more f base (take k (enumerate_from 1 xs)) (k + 1, x))

  pub numbered-all : (xs : List X) (k : ℕ) (base text : List A) → length xs ≤ k → text ≡ base ++ flat_map f (take k (enumerate_from 1 xs)) → text ≡ base ++ flat_map f (enumerate_from 1 xs)
  numbered-all xs k base text all so_far = let size = length-enumerate_from 1 xs in so_far ∙ ap (λ ys. base ++ flat_map f ys) (take_all k (enumerate_from 1 xs) (omega arith))
