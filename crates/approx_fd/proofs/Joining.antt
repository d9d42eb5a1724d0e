-- Lists that several threads made.
use Rattle.std.proofs.Common.{◌≡◌, ℕ, ◌+◌, ◌<◌, ◌≤◌, refl, sym, ap, ap₂, ◌∙◌, subst, List, [], ◌∷◌, ◌++◌, length, get_or, map, take, take_all, append-nil, Result, Ok, Err, IfOk, MatchResult, Vec, Global}
use Rattle.std.specs.List.{All, AllZip, Contains, flat_map}
use Rattle.std.specs.declared.alloc.AllocError.{AllocError}
use Rattle.std.proofs.lemmas.List.{take_more}
use Rattle.std.proofs.lemmas.List.Elements.{All-cons, All-nil}
use Rattle.std.proofs.lemmas.List.Concat.{flat_map-append}
use Rattle.approx_fd.specs.declared.found.Approx.{Approx}

abbrev pub items : Vec Approx Global → List Approx
items list = list.items

pub joined-more : (lists : List (Vec Approx Global)) (k : ℕ) (list : Vec Approx Global) (before after : List Approx) → k < length lists → list ≡ get_or lists k list → before ≡ flat_map items (take k lists) → after ≡ before ++ list.items
    → after ≡ flat_map items (take (k + 1) lists)
joined-more lists k list before after l is e m =
    m ∙ ap₂ (λ (xs ys : List Approx). xs ++ ys) e (sym (append-nil list.items)) ∙ sym (flat_map-append items (take k lists) (list ∷ []))
    ∙ ap (flat_map items) (sym (take_more lists k list l ∙ ap (λ (v : Vec Approx Global). take k lists ++ v ∷ []) (sym is)))

pub joined-all : (lists : List (Vec Approx Global)) (k : ℕ) (found : List Approx) → length lists ≤ k → found ≡ flat_map items (take k lists) → found ≡ flat_map items lists
joined-all lists k found l e = e ∙ ap (flat_map items) (take_all k lists l)

-- ---- what each column gave
abbrev oks : List (Vec Approx Global) → List (Result (Vec Approx Global) AllocError)
oks lists = map (λ list. Ok list) lists

module _ (f : ℕ → List Approx) where
  same_lists : (columns : List ℕ) (lists : List (Vec Approx Global)) → AllZip (λ column r. IfOk r (λ list. list.items ≡ f column)) columns (oks lists) → flat_map items lists ≡ flat_map f columns
  same_lists [] [] h = refl
  same_lists [] (v ∷ vs) h = absurd h
  same_lists (c ∷ cs) [] h = absurd h
  same_lists (c ∷ cs) (v ∷ vs) h = ap₂ (λ (xs ys : List Approx). xs ++ ys) h.0 (same_lists cs vs h.1)

  pub lists_made : (columns : List ℕ) (made : List (Result (Vec Approx Global) AllocError)) (r : Result (Vec (Vec Approx Global) Global) AllocError)
      → AllZip (λ column r. IfOk r (λ list. list.items ≡ f column)) columns made
      → MatchResult r (λ v. (lists : List (Vec Approx Global)) × (made ≡ oks lists) × (v.items ≡ lists)) (λ e. Contains made (Err e)) → IfOk r (λ v. flat_map items v.items ≡ flat_map f columns)
  lists_made columns made (Ok v) all h = ap (flat_map items) h.2 ∙ same_lists columns h.0 (subst (λ (rs : List (Result (Vec Approx Global) AllocError)). AllZip (λ column r. IfOk r (λ list. list.items ≡ f column)) columns rs) h.1 all)
  lists_made columns made (Err e) all h = tt

-- ---- what each thread gave
module _ {X Y : Type 0} (P : Y → Type 0) where
  zipped : (xs : List X) (ys : List Y) → AllZip (λ (x : X) (r : Result Y AllocError). IfOk r P) xs (map (λ y. Ok y) ys) → All P ys
  zipped [] [] h = All-nil P
  zipped [] (y ∷ ys) h = absurd h
  zipped (x ∷ xs) [] h = absurd h
  zipped (x ∷ xs) (y ∷ ys) h = All-cons P y ys h.0 (zipped xs ys h.1)

  -- all that was made has the property, where all was made
  pub all_made : (xs : List X) (made : List (Result Y AllocError)) (r : Result (Vec Y Global) AllocError)
      → AllZip (λ (x : X) (r : Result Y AllocError). IfOk r P) xs made
      → MatchResult r (λ v. (ys : List Y) × (made ≡ map (λ y. Ok y) ys) × (v.items ≡ ys)) (λ e. Contains made (Err e)) → IfOk r (λ v. All P v.items)
  all_made xs made (Ok v) all h = subst (All P) (sym h.2) (zipped xs h.0 (subst (λ (rs : List (Result Y AllocError)). AllZip (λ (x : X) (r : Result Y AllocError). IfOk r P) xs rs) h.1 all))
  all_made xs made (Err e) all h = tt
