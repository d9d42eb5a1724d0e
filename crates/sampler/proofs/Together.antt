-- What the columns' samples tell together.
use Rattle.std.proofs.Common.{◌≡◌, List, [], ◌∷◌, ◌++◌, Contains, Vec, Result, Ok, Err, IfOk, MatchResult, map, sym, subst}
use Rattle.std.specs.declared.alloc.Global.{Global}
use Rattle.std.specs.declared.alloc.AllocError.{AllocError}
use Rattle.std.specs.List.{All, AllZip}
use Rattle.std.proofs.lemmas.List.Elements.{All-append, All-cons, All-nil}

-- with more that has the property
pub all_with : {X : Type 0} (P : X → Type 0) (xs ys zs : List X) → zs ≡ xs ++ ys → All P xs → All P ys → All P zs
all_with P xs ys zs e h more = subst (All P) (sym e) (All-append P xs ys h more)

module _ {X Y : Type 0} (P : Y → Type 0) where
  zipped : (xs : List X) (ys : List Y) → AllZip (λ (x : X) (r : Result Y AllocError). IfOk r P) xs (map (λ y. Ok y) ys) → All P ys
  zipped [] [] h = All-nil P
  zipped [] (y ∷ ys) h = absurd h
  zipped (x ∷ xs) [] h = absurd h
  zipped (x ∷ xs) (y ∷ ys) h = All-cons P y ys h.0 (zipped xs ys h.1)

  -- all that was made has the property, where all was made
  pub all_made : (xs : List X) (made : List (Result Y AllocError)) (r : Result (Vec Y Global) AllocError)
      → AllZip (λ (x : X) (r : Result Y AllocError). IfOk r P) xs made
      → MatchResult r (λ v. (ys : List Y) × (made ≡ map (λ y. Ok y) ys) × (v.items ≡ ys)) (λ e. Contains made (Err e)) → IfOk r (λ v. All P v.items)
  all_made xs made (Ok v) all h = subst (All P) (sym h.2) (zipped xs h.0 (subst (λ (rs : List (Result Y AllocError)). AllZip (λ (x : X) (r : Result Y AllocError). IfOk r P) xs rs) h.1 all))
  all_made xs made (Err e) all h = tt
