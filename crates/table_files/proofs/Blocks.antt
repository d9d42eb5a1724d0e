-- Numbered tables block by block.
use Rattle.std.proofs.Common.{◌≡◌, ◌∙◌, ◌+◌, ℕ, refl, ap, ap₂, List, [], ◌∷◌, ◌++◌, map, take, drop, append_assoc}
use Rattle.std.specs.List.{All, enumerate_from}
use Rattle.std.proofs.lemmas.List.{map-append, take-append-drop}
use Rattle.std.proofs.lemmas.List.Elements.{All-cons, All-head, All-nil, All-tail}

module _ {A B : Type 0} (f : A → B) where
  -- what is told of one block more, where the elements told and the rest are all
  pub told_more : (m : ℕ) (sheets more next : List A) (rest block later all : List B) → block ≡ take m rest → later ≡ drop m rest → map f more ≡ block → next ≡ sheets ++ more
      → map f sheets ++ rest ≡ all → map f next ++ later ≡ all
  told_more m sheets more next rest block later all b l t n so_far =
      ap (λ (xs : List A). map f xs ++ later) n
      ∙ ap (λ (xs : List B). xs ++ later) (map-append f sheets more)
      ∙ append_assoc (map f sheets) (map f more) later
      ∙ ap (λ (xs : List B). map f sheets ++ xs) (ap₂ (λ (xs ys : List B). xs ++ ys) (t ∙ b) l ∙ take-append-drop m rest)
      ∙ so_far

  -- a function of what is told
  pub map_told : {C : Type 0} (g : B → C) (sheets : List A) → map (λ sheet. g (f sheet)) sheets ≡ map g (map f sheets)
  map_told g [] = refl
  map_told g (x ∷ xs) = ap (λ ys. g (f x) ∷ ys) (map_told g xs)

-- what holds of each element holds of each numbered one
pub numbered_all : {X : Type 0} (P : X → Type 0) (k : ℕ) (xs : List X) → All P xs → All (λ (numbered : ℕ × X). P numbered.1) (enumerate_from k xs)
numbered_all P k [] h = All-nil (λ numbered. P numbered.1)
numbered_all P k (x ∷ xs) h = All-cons (λ numbered. P numbered.1) (k, x) (enumerate_from (k + 1) xs) (All-head P x xs h) (numbered_all P (k + 1) xs (All-tail P x xs h))
