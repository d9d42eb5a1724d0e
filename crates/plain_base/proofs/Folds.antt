-- Tests of lists, by one more element.
use Rattle.std.proofs.Common.{◌≡◌, ℕ, zero, suc, ◌+◌, ◌<◌, ◌≤◌, Bool, true, false, ◌&&◌, refl, sym, ap, ◌∙◌, arith, List, [], ◌∷◌, ◌++◌, length, get_or, take, Result, Ok, Err, Vec, Global}
use Rattle.std.specs.Prelude.{IfOk}
use Rattle.std.specs.List.{list_any, list_all, range_with_len}
use Rattle.std.proofs.lemmas.Bool.{or_left, or_right, and_from}
use Rattle.std.proofs.lemmas.List.Folds.{list_any_more, list_all_more}

pub take_whole : {X : Type 0} (n : ℕ) (xs : List X) → length xs ≤ n → take n xs ≡ xs
take_whole zero [] h = refl
take_whole zero (x ∷ xs) h = absurd (omega arith)
take_whole (suc n) [] h = refl
take_whole (suc n) (x ∷ xs) h = ap (λ ys. x ∷ ys) (take_whole n xs (omega arith))

and-false : (b : Bool) → (b && false) ≡ false
and-false true = refl
and-false false = refl

module _ {X : Type 0} (p : X → Bool) where
  pub any_found : (xs : List X) (i : ℕ) (d : X) → i < length xs → p (get_or xs i d) ≡ true → true ≡ list_any p xs
  any_found [] i d l e = absurd (omega arith)
  any_found (x ∷ xs) zero d l e = sym (or_left (p x) (list_any p xs) e)
  any_found (x ∷ xs) (suc i) d l e = sym (or_right (p x) (list_any p xs) (sym (any_found xs i d (omega arith) e)))

  pub any_missed : (xs : List X) (i : ℕ) (d : X) → i < length xs → p (get_or xs i d) ≡ false → list_any p (take i xs) ≡ false → list_any p (take (i + 1) xs) ≡ false
  any_missed xs i d l e none = list_any_more p xs i d l ∙ grind arith

  pub any_none : (xs : List X) (n : ℕ) → length xs ≤ n → list_any p (take n xs) ≡ false → false ≡ list_any p xs
  any_none xs n l e = sym e ∙ ap (list_any p) (take_whole n xs l)

  pub all_missed : (xs : List X) (i : ℕ) (d : X) → i < length xs → p (get_or xs i d) ≡ false → false ≡ list_all p xs
  all_missed [] i d l e = absurd (omega arith)
  all_missed (x ∷ xs) zero d l e = sym (ap (λ b. b && list_all p xs) e)
  all_missed (x ∷ xs) (suc i) d l e = sym (ap (λ b. p x && b) (sym (all_missed xs i d (omega arith) e)) ∙ and-false (p x))

  pub all_more : (xs : List X) (i : ℕ) (d : X) → i < length xs → p (get_or xs i d) ≡ true → list_all p (take i xs) ≡ true → list_all p (take (i + 1) xs) ≡ true
  all_more xs i d l e all = list_all_more p xs i d l ∙ and_from _ _ all e

  pub all_seen : (xs : List X) (n : ℕ) → length xs ≤ n → list_all p (take n xs) ≡ true → true ≡ list_all p xs
  all_seen xs n l e = sym e ∙ ap (list_all p) (take_whole n xs l)

pub ok_is : {X E : Type 0} (r : Result X E) (a b : X) → a ≡ b → IfOk r (λ v. v ≡ a) → IfOk r (λ v. v ≡ b)
ok_is (Ok v) a b e h = h ∙ e
ok_is (Err e) a b i h = h

pub items_are : {X E : Type 0} (r : Result (Vec X Global) E) (xs ys : List X) → xs ≡ ys → IfOk r (λ v. v.items ≡ xs) → IfOk r (λ v. v.items ≡ ys)
items_are (Ok v) xs ys e h = h ∙ e
items_are (Err e) xs ys i h = h

pub range_more : (n a : ℕ) → range_with_len a (n + 1) ≡ range_with_len a n ++ (a + n) ∷ []
range_more zero a = ap (λ (i : ℕ). i ∷ []) (let e : a ≡ a + 0 = omega arith in e)
range_more (suc n) a =
    ap (range_with_len a) (let e : suc n + 1 ≡ suc (n + 1) = omega arith in e)
    ∙ ap (λ is. a ∷ is) (range_more n (a + 1))
    ∙ ap (λ (i : ℕ). (a ∷ range_with_len (a + 1) n) ++ i ∷ []) (let e : a + 1 + n ≡ a + suc n = omega arith in e)
