-- The first element of a list and those behind it.
use Rattle.std.proofs.Common.{inl, inr, ◌≡◌, ◌⊎◌, refl, sym, subst, arith, List, [], ◌∷◌, ◌++◌, length}
use Rattle.std.specs.List.{All}
use Rattle.col_set.specs.Lists.{Listed, Listed-append_cases}
use Rattle.rel_base.proofs.States.{All-listed, All-from}

module _ {X : Type 0} where
  pub first-of : (P : X → Type 0) (x : X) (xs whole : List X) → whole ≡ x ∷ xs → All P whole → P x
  first-of P x xs whole e a = All-listed P x whole a (subst (Listed x) (sym e) (inl refl))

  pub rest-of : (P : X → Type 0) (x : X) (xs whole : List X) → whole ≡ x ∷ xs → All P whole → All P xs
  rest-of P x xs whole e a = All-from P xs (λ y h. All-listed P y whole a (subst (Listed y) (sym e) (inr h)))

  pub none-left : (xs : List X) → length xs ≡ 0 → xs ≡ []
  none-left [] e = refl
  none-left (x ∷ xs) e = absurd (omega arith)

  pub All-last : (P : X → Type 0) (xs : List X) (x : X) → All P xs → P x → All P (xs ++ x ∷ [])
  All-last P xs x a h = All-from P (xs ++ x ∷ []) (λ y g. by y (Listed-append_cases y xs (x ∷ []) g))
    where
      by : (y : X) → Listed y xs ⊎ Listed y (x ∷ []) → P y
      by y (inl g) = All-listed P y xs a g
      by y (inr (inl e)) = subst P (sym e) h
      by y (inr (inr g)) = absurd g

  pub All-none : (P : X → Type 0) (xs : List X) → xs ≡ [] → All P xs
  All-none P xs e = All-from P xs (λ y g. absurd (subst (Listed y) e g))
