-- Ranges of columns, one column more.
use Rattle.std.proofs.Common.{◌≡◌, ℕ, zero, suc, ◌+◌, ap, ◌∙◌, arith, List, [], ◌∷◌, ◌++◌}
use Rattle.std.specs.List.{flat_map, range_with_len}
use Rattle.std.proofs.lemmas.List.{append-nil}
use Rattle.std.proofs.lemmas.List.Concat.{flat_map-append}
use Rattle.col_set.specs.ColSet.{upto}

upto_more : (n : ℕ) → upto (n + 1) ≡ upto n ++ n ∷ []
upto_more n = by n 0 ∙ ap (λ (i : ℕ). upto n ++ i ∷ []) (let e : 0 + n ≡ n = omega arith in e)
  where
    by : (n a : ℕ) → range_with_len a (n + 1) ≡ range_with_len a n ++ (a + n) ∷ []
    by zero a = ap (λ (i : ℕ). i ∷ []) (let e : a ≡ a + 0 = omega arith in e)
    by (suc n) a = ap (range_with_len a) (let e : suc n + 1 ≡ suc (n + 1) = omega arith in e) ∙ ap (λ (is : List ℕ). a ∷ is) (by n (a + 1)) ∙ ap (λ (i : ℕ). (a ∷ range_with_len (a + 1) n) ++ i ∷ []) (let e : a + 1 + n ≡ a + suc n = omega arith in e)

pub flat_map-upto_more : {X : Type 0} (f : ℕ → List X) (n : ℕ) → flat_map f (upto (n + 1)) ≡ flat_map f (upto n) ++ f n
flat_map-upto_more f n = ap (flat_map f) (upto_more n) ∙ flat_map-append f (upto n) (n ∷ []) ∙ ap (λ ys. flat_map f (upto n) ++ ys) (append-nil (f n))
