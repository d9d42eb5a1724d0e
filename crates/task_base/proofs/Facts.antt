-- Facts of options, results, places of lists and faults.
use Rattle.std.proofs.Common.{◌≡◌, ◌∙◌, ℕ, zero, suc, ◌<◌, ◌≤◌, refl, ap, arith, List, [], ◌∷◌, length, get_or, take, Option, Some, None, Result, Ok, Err, false, cond}
use Rattle.std.specs.Prelude.{OnOk, IfOk, IfSome, is_ok, is_err}
use Rattle.std.proofs.lemmas.Bool.{false≢true}
use Rattle.ports.specs.Faults.{SameFaults}

module _ {T E : Type 0} where
  pub OnOk-map : (r : Result T E) {P Q : Type 0} → (P → Q) → OnOk r P → OnOk r Q
  OnOk-map (Ok x) f p = f p
  OnOk-map (Err e) f p = p

  pub OnOk-always : (r : Result T E) {P : Type 0} → P → OnOk r P
  OnOk-always (Ok x) p = p
  OnOk-always (Err e) p = tt

  pub IfOk-map : (r : Result T E) {P Q : T → Type 0} → ((x : T) → P x → Q x) → IfOk r P → IfOk r Q
  IfOk-map (Ok x) f p = f x p
  IfOk-map (Err e) f p = p

-- ---- facts of options and results
module _ {T : Type 0} where
  pub IfSome-always : (o : Option T) {P : T → Type 0} → ((x : T) → P x) → IfSome o P
  IfSome-always None f = tt
  IfSome-always (Some x) f = f x

  pub IfSome-map : (o : Option T) {P Q : T → Type 0} → ((x : T) → P x → Q x) → IfSome o P → IfSome o Q
  IfSome-map None f p = p
  IfSome-map (Some x) f p = f x p

  pub IfSome-both : (o : Option T) {P Q R : T → Type 0} → ((x : T) → P x → Q x → R x) → IfSome o P → IfSome o Q → IfSome o R
  IfSome-both None f p q = p
  IfSome-both (Some x) f p q = f x p q

pub pushed : {T E X : Type 0} (r : Result T E) (items a b : X) → false ≡ is_err r → items ≡ cond (is_ok r) a b → items ≡ a
pushed (Ok x) items a b e i = i
pushed (Err y) items a b e i = absurd (false≢true e)

-- what holds where a call went well, where it did not fail
pub unless_err : {T E : Type 0} (r : Result T E) {P : Type 0} → false ≡ is_err r → OnOk r P → P
unless_err (Ok x) e p = p
unless_err (Err y) e p = absurd (false≢true e)

pub SameFaults-trans : {S : Type 0} (count : S → ℕ) (last : S → Option (List ℕ)) (a b c : S) → SameFaults count last a b → SameFaults count last b c → SameFaults count last a c
SameFaults-trans count last a b c s t = record { count = t.count ∙ s.count; name_is = t.name_is ∙ s.name_is }

pub SameFaults-refl : {S : Type 0} (count : S → ℕ) (last : S → Option (List ℕ)) (a : S) → SameFaults count last a a
SameFaults-refl count last a = record { count = refl; name_is = refl }

-- ---- places of lists
pub take_whole : {X : Type 0} (i : ℕ) (xs : List X) → length xs ≤ i → take i xs ≡ xs
take_whole zero [] h = refl
take_whole zero (x ∷ xs) h = absurd (omega arith)
take_whole (suc i) [] h = refl
take_whole (suc i) (x ∷ xs) h = ap (λ ys. x ∷ ys) (take_whole i xs (omega arith))

-- the place of a list, whatever stands for a place that is not there
pub at_place : {X : Type 0} (xs : List X) (n : ℕ) (y d : X) → n < length xs → y ≡ get_or xs n y → y ≡ get_or xs n d
at_place [] n y d h e = absurd (omega arith)
at_place (x ∷ xs) zero y d h e = e
at_place (x ∷ xs) (suc n) y d h e = at_place xs n y d (omega arith) e
