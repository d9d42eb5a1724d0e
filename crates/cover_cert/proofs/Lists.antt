-- Left sides of several columns, a list for each.
use Rattle.std.proofs.Common.{◌≡◌, ℕ, zero, suc, ◌+◌, ◌<◌, ◌≤◌, refl, sym, ap, ap₂, ◌∙◌, subst, arith, List, [], ◌∷◌, ◌++◌, length, get_or, map, drop, append_assoc, Result, Ok, Err, IfOk, MatchResult, Vec, Global}
use Rattle.std.specs.List.{All, AllZip, Contains, flat_map}
use Rattle.col_set.specs.ColSet.{upto}
use Rattle.col_set.specs.AllSets.{Listed-upto_within}
use Rattle.col_set.specs.Lists.{Listed}
use Rattle.rel_base.proofs.States.{All-from}
use Rattle.std.specs.declared.alloc.AllocError.{AllocError}
use Rattle.std.proofs.lemmas.List.{drop_all, drop_more, length-map}
use Rattle.col_set.specs.declared.target.Target.TheVariants.{Col}
use Rattle.cover_cert.specs.declared.line.Claim.{Claim}
use Rattle.cover_cert.specs.Comparing.{claims_beside, claims_to}
use Rattle.cover_cert.proofs.Gathered.{column_claims}
use Rattle.col_set.specs.Evidence.{least}

-- ---- what each column gave
module _ {A : Type 0} (f : ℕ → List A) where
  same_lists : (columns : List ℕ) (lists : List (Vec A Global)) → AllZip (λ column (r : Result (Vec A Global) AllocError). IfOk r (λ list. list.items ≡ f column)) columns (map (λ list. Ok list) lists) → map (λ (list : Vec A Global). list.items) lists ≡ map f columns
  same_lists [] [] h = refl
  same_lists [] (v ∷ vs) h = absurd h
  same_lists (c ∷ cs) [] h = absurd h
  same_lists (c ∷ cs) (v ∷ vs) h = ap₂ (λ (x : List A) (xs : List (List A)). x ∷ xs) h.0 (same_lists cs vs h.1)

  pub lists_made : (columns : List ℕ) (made : List (Result (Vec A Global) AllocError)) (r : Result (Vec (Vec A Global) Global) AllocError)
      → AllZip (λ column (r : Result (Vec A Global) AllocError). IfOk r (λ list. list.items ≡ f column)) columns made
      → MatchResult r (λ v. (lists : List (Vec A Global)) × (made ≡ map (λ list. Ok list) lists) × (v.items ≡ lists)) (λ e. Contains made (Err e)) → IfOk r (λ v. map (λ (list : Vec A Global). list.items) v.items ≡ map f columns)
  lists_made columns made (Ok v) all h =
      ap (map (λ (list : Vec A Global). list.items)) h.2
      ∙ same_lists columns h.0 (subst (λ (rs : List (Result (Vec A Global) AllocError)). AllZip (λ column (r : Result (Vec A Global) AllocError). IfOk r (λ list. list.items ≡ f column)) columns rs) h.1 all)
  lists_made columns made (Err e) all h = tt

-- ---- one list after another
pub beside-first : (columns : List ℕ) (lists : List (List ℕ)) (k a : ℕ) (lefts : List ℕ) (more : List Claim) → k < length columns → k < length lists → a ≡ get_or columns k a → lefts ≡ get_or lists k lefts
    → claims_beside (drop k columns) (drop k lists) ++ more ≡ claims_to (Col a) lefts ++ (claims_beside (drop (k + 1) columns) (drop (k + 1) lists) ++ more)
unfolding claims_beside
beside-first columns lists k a lefts more l m e i =
    ap₂ (λ (cs : List ℕ) (ls : List (List ℕ)). claims_beside cs ls ++ more) (drop_more columns k a l ∙ ap (λ (b : ℕ). b ∷ drop (k + 1) columns) (sym e)) (drop_more lists k lefts m ∙ ap (λ (b : List ℕ). b ∷ drop (k + 1) lists) (sym i))
    ∙ append_assoc (claims_to (Col a) lefts) (claims_beside (drop (k + 1) columns) (drop (k + 1) lists)) more

pub beside-none : (columns : List ℕ) (lists : List (List ℕ)) (k : ℕ) → length columns ≤ k → claims_beside (drop k columns) (drop k lists) ≡ []
unfolding claims_beside
beside-none columns lists k l = ap (λ (cs : List ℕ). claims_beside cs (drop k lists)) (drop_all k columns l) ∙ none (drop k lists)
  where
    none : (ls : List (List ℕ)) → claims_beside [] ls ≡ []
    none [] = refl
    none (x ∷ xs) = refl

pub beside-each : (n : ℕ) (ws columns : List ℕ) → claims_beside columns (map (λ a. least n ws (Col a)) columns) ≡ flat_map (column_claims n ws) columns
unfolding claims_beside
beside-each n ws [] = refl
beside-each n ws (a ∷ columns) = ap (λ (cs : List Claim). column_claims n ws a ++ cs) (beside-each n ws columns)

module _ {A : Type 0} where
  pub length-items : (lists : List (Vec A Global)) → length (map (λ (list : Vec A Global). list.items) lists) ≡ length lists
  length-items lists = length-map lists (λ (list : Vec A Global). list.items)

  pub items-at : (lists : List (Vec A Global)) (k : ℕ) (list : Vec A Global) (d : List A) → k < length lists → list ≡ get_or lists k list → list.items ≡ get_or (map (λ (list : Vec A Global). list.items) lists) k d
  items-at [] k list d l e = absurd (omega arith)
  items-at (x ∷ xs) zero list d l e = ap (λ (v : Vec A Global). v.items) e
  items-at (x ∷ xs) (suc k) list d l e = items-at xs k list d (omega arith) e

  pub any-default : (xs : List A) (k : ℕ) (d e : A) → k < length xs → get_or xs k d ≡ get_or xs k e
  any-default [] k d e l = absurd (omega arith)
  any-default (x ∷ xs) zero d e l = refl
  any-default (x ∷ xs) (suc k) d e l = any-default xs k d e (omega arith)

pub within-columns : (n : ℕ) (columns : List ℕ) → columns ≡ upto n → All (λ c. c < n) columns
within-columns n columns e = All-from (λ (c : ℕ). c < n) columns (λ c h. Listed-upto_within n c (subst (Listed c) e h))
