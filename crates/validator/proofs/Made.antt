-- What several threads make of a list, all or an error.
use Rattle.std.proofs.Common.{◌≡◌, ℕ, subst, sym, List, [], ◌∷◌, map, Result, Ok, Err, Vec, IfOk, Contains, MatchResult}
use Rattle.std.specs.declared.alloc.Global.{Global}
use Rattle.std.specs.declared.alloc.AllocError.{AllocError}
use Rattle.std.specs.List.{All, AllZip}
use Rattle.std.proofs.lemmas.List.Elements.{All-nil, All-cons}
use Rattle.validator.specs.declared.weighed.Weighed.{Weighed}

module _ (P : Weighed → Type 0) where
  abbrev oks : List Weighed → List (Result Weighed AllocError)
  oks made = map (λ one. Ok one) made

  all_made : (columns : List ℕ) (made : List Weighed) → AllZip (λ _ r. IfOk r P) columns (oks made) → All P made
  all_made [] [] h = All-nil P
  all_made [] (x ∷ made) h = absurd h
  all_made (column ∷ columns) [] h = absurd h
  all_made (column ∷ columns) (x ∷ made) h = All-cons P x made h.0 (all_made columns made h.1)

  pub weighed_made : (columns : List ℕ) (results : List (Result Weighed AllocError)) (r : Result (Vec Weighed Global) AllocError)
      → AllZip (λ _ r. IfOk r P) columns results
      → MatchResult r (λ v. (made : List Weighed) × (results ≡ oks made) × (v.items ≡ made)) (λ e. Contains results (Err e)) → IfOk r (λ v. All P v.items)
  weighed_made columns results (Ok v) all h = subst (All P) (sym h.2) (all_made columns h.0 (subst (λ (rs : List (Result Weighed AllocError)). AllZip (λ _ r. IfOk r P) columns rs) h.1 all))
  weighed_made columns results (Err e) all h = tt
