-- The places of claims in an order of visits.
use Rattle.std.proofs.Common.{inl, inr, ◌≡◌, ◌≢◌, ◌⊎◌, ℕ, zero, suc, ◌+◌, ◌<◌, ◌≤◌, true, false, sym, ap, ◌∙◌, subst, arith, List, [], ◌∷◌, ◌++◌, length, map, get_or, IsPermutation, Result, Ok, Err, IfOk, MatchResult, Vec, Global}
use Rattle.std.specs.List.{AllZip, Contains, flat_map}
use Rattle.std.specs.declared.alloc.AllocError.{AllocError}
use Rattle.std.proofs.lemmas.Bool.{cases_eq}
use Rattle.std.proofs.lemmas.List.Sorted.{Contains-permutation}
use Rattle.rayon.specs.Lists.{chunks_of}
use Rattle.rayon.proofs.ToStd.{chunks_of-concat}
use Rattle.col_set.specs.Lists.{Listed, Listed-append_cases, Listed-append_left, Listed-append_right}
use Rattle.col_set.proofs.Places.{Contains-listed, Listed-contained}
use Rattle.rel_base.specs.CodeTable.{CodeTable}
use Rattle.rel_base.specs.Shows.{holds_in}
use Rattle.cover_cert.specs.declared.line.Claim.{Claim}
use Rattle.cover_cert.specs.Holding.{AreVisits, HoldsAt, FailsAt, IsLeastFailing, IsLeastOf}

pub visits-more : (n rank : ℕ) (visits more : List (ℕ × ℕ)) → AreVisits n visits → more ≡ visits ++ (rank, n) ∷ [] → AreVisits (n + 1) more
visits-more n rank visits more are e = subst (AreVisits (n + 1)) (sym e) (record { every = λ place l. by place (cases_eq place n) l })
  where
    by : (place : ℕ) → (place ≡ n) ⊎ (place ≢ n) → place < n + 1 → (r : ℕ) × Contains (visits ++ (rank, n) ∷ []) (r, place)
    by place (inl i) l = (rank, Contains-listed (rank, place) (visits ++ (rank, n) ∷ []) (Listed-append_right (rank, place) visits ((rank, n) ∷ []) (inl (ap (λ (k : ℕ). (rank, k)) i))))
    by place (inr other) l =
        let w = are.every place (omega arith) in
        (w.0, Contains-listed (w.0, place) (visits ++ (rank, n) ∷ []) (Listed-append_left (w.0, place) visits ((rank, n) ∷ []) (Listed-contained (w.0, place) visits w.1)))

pub visits-permuted : (n : ℕ) (visits others : List (ℕ × ℕ)) → IsPermutation visits others → AreVisits n visits → AreVisits n others
visits-permuted n visits others p are = record { every = λ place l. let w = are.every place l in (w.0, Contains-permutation visits others (w.0, place) p w.1) }

-- ---- the least place that fails so far
abbrev pub Seen : CodeTable → List Claim → List (ℕ × ℕ) → ℕ → ℕ → Type 0
Seen s claims visits n least = (k : ℕ) (d : ℕ × ℕ) → k < n → (let place : ℕ = (get_or visits k d).1 in place < least → HoldsAt s claims place)

module _ (s : CodeTable) (claims : List Claim) (visits : List (ℕ × ℕ)) where
  same_default : (xs : List (ℕ × ℕ)) (k : ℕ) (d e : ℕ × ℕ) → k < length xs → get_or xs k d ≡ get_or xs k e
  same_default [] k d e l = absurd (omega arith)
  same_default (x ∷ xs) zero d e l = λ i. x
  same_default (x ∷ xs) (suc k) d e l = same_default xs k d e (omega arith)

  -- all visits are done
  pub seen-all : (n least : ℕ) → Seen s claims visits n least → length visits ≤ n → least ≤ length claims → FailsAt s claims least → IsLeastOf s claims visits least
  seen-all n least seen l bound fails = record {
    bound = bound;
    fails = fails;
    before = λ rank other c m.
        let inside = c.1 in
        let at : get_or visits c.0 (rank, other) ≡ (rank, other) = c.2 in
        let is : (get_or visits c.0 (rank, other)).1 ≡ other = ap (λ (p : ℕ × ℕ). p.1) at in
        subst (HoldsAt s claims) is (seen c.0 (rank, other) (omega arith) (omega arith));
  }

  -- one visit more
  pub seen-next : (n least next place : ℕ) (e : ℕ × ℕ) → n < length visits → Seen s claims visits n least → next ≤ least → place ≡ (get_or visits n e).1 → (place < next → HoldsAt s claims place) → Seen s claims visits (n + 1) next
  seen-next n least next place e l seen less is h k d m = by (cases_eq k n)
    where
      by : (k ≡ n) ⊎ (k ≢ n) → (get_or visits k d).1 < next → HoldsAt s claims (get_or visits k d).1
      by (inl i) small = subst (λ (p : ℕ). p < next → HoldsAt s claims p) (is ∙ sym (ap (λ (p : ℕ × ℕ). p.1) (ap (λ (j : ℕ). get_or visits j d) i ∙ same_default visits n d e l))) h small
      by (inr other) small = seen k d (omega arith) (omega arith)

-- a claim at a place, by what stands there
pub holds-at : (s : CodeTable) (claims : List Claim) (place : ℕ) (e : Claim) → place < length claims → (let claim : Claim = get_or claims place e in holds_in s claim.left claim.target ≡ true) → HoldsAt s claims place
holds-at s claims place e l h d = ap (λ (c : Claim). holds_in s c.left c.target) (same claims place d e l) ∙ h
  where
    same : (xs : List Claim) (k : ℕ) (d e : Claim) → k < length xs → get_or xs k d ≡ get_or xs k e
    same [] k d e l = absurd (omega arith)
    same (x ∷ xs) zero d e l = λ i. x
    same (x ∷ xs) (suc k) d e l = same xs k d e (omega arith)

pub fails-at : (s : CodeTable) (claims : List Claim) (place : ℕ) (e : Claim) → (let claim : Claim = get_or claims place e in holds_in s claim.left claim.target ≡ false) → FailsAt s claims place
fails-at s claims place e h d l = ap (λ (c : Claim). holds_in s c.left c.target) (same claims place d e l) ∙ h
  where
    same : (xs : List Claim) (k : ℕ) (d e : Claim) → k < length xs → get_or xs k d ≡ get_or xs k e
    same [] k d e l = absurd (omega arith)
    same (x ∷ xs) zero d e l = λ i. x
    same (x ∷ xs) (suc k) d e l = same xs k d e (omega arith)

-- ---- stretches of visits
module _ {X Y : Type 0} (P : X → Y → Type 0) where
  zipped : (xs : List X) (ys : List Y) → AllZip (λ (x : X) (r : Result Y AllocError). IfOk r (P x)) xs (map (λ y. Ok y) ys) → AllZip P xs ys
  zipped [] [] h = tt
  zipped [] (y ∷ ys) h = absurd h
  zipped (x ∷ xs) [] h = absurd h
  zipped (x ∷ xs) (y ∷ ys) h = (h.0, zipped xs ys h.1)

  -- what was made of each, where all was made
  pub each_made : (xs : List X) (made : List (Result Y AllocError)) (r : Result (Vec Y Global) AllocError)
      → AllZip (λ (x : X) (r : Result Y AllocError). IfOk r (P x)) xs made
      → MatchResult r (λ v. (ys : List Y) × (made ≡ map (λ y. Ok y) ys) × (v.items ≡ ys)) (λ e. Contains made (Err e)) → IfOk r (λ v. AllZip P xs v.items)
  each_made xs made (Ok v) all h = subst (AllZip P xs) (sym h.2) (zipped xs h.0 (subst (λ (rs : List (Result Y AllocError)). AllZip (λ (x : X) (r : Result Y AllocError). IfOk r (P x)) xs rs) h.1 all))
  each_made xs made (Err e) all h = tt

module _ (s : CodeTable) (claims : List Claim) where
  -- a visit is in some stretch
  before-least : (stretches : List (List (ℕ × ℕ))) (places : List ℕ) (least rank other : ℕ) → AllZip (IsLeastOf s claims) stretches places
      → ((k d : ℕ) → k < length places → least ≤ get_or places k d) → other < least → Listed (rank, other) (flat_map (λ l. l) stretches) → HoldsAt s claims other
  before-least [] places least rank other all below m here = absurd here
  before-least (v ∷ vs) [] least rank other all below m here = absurd all
  before-least (v ∷ vs) (p ∷ ps) least rank other all below m here = elim (Listed-append_cases (rank, other) v (flat_map (λ l. l) vs) here) as (λ _. HoldsAt s claims other) [
    | inl l ↦ (let at = below 0 0 (omega arith) in all.0.before rank other (Contains-listed (rank, other) v l) (omega arith))
    | inr l ↦ before-least vs ps least rank other all.1 (λ k d i. below (suc k) d (omega arith)) m l
  ]

  -- one of the places fails
  one-fails : (stretches : List (List (ℕ × ℕ))) (places : List ℕ) (least : ℕ) → AllZip (IsLeastOf s claims) stretches places → Listed least places → FailsAt s claims least
  one-fails stretches [] least all here = absurd here
  one-fails [] (p ∷ ps) least all here = absurd all
  one-fails (v ∷ vs) (p ∷ ps) least all (inl e) = subst (FailsAt s claims) (sym e) all.0.fails
  one-fails (v ∷ vs) (p ∷ ps) least all (inr h) = one-fails vs ps least all.1 h

  -- the least of all stretches
  pub least-of-all : (visits : List (ℕ × ℕ)) (stretch : ℕ) (places : List ℕ) (least : ℕ) → 0 < stretch → AreVisits (length claims) visits
      → AllZip (IsLeastOf s claims) (chunks_of stretch visits) places → least ≤ length claims → ((k d : ℕ) → k < length places → least ≤ get_or places k d)
      → (least ≡ length claims) ⊎ Listed least places → IsLeastFailing s claims least
  least-of-all visits stretch places least some are all bound below found = record {
    bound = bound;
    fails = fails found;
    before = λ other m.
        let w = are.every other (omega arith) in
        before-least (chunks_of stretch visits) places least w.0 other all below m
        (subst (Listed (w.0, other)) (sym (chunks_of-concat stretch visits some)) (Listed-contained (w.0, other) visits w.1));
  }
    where
      fails : (least ≡ length claims) ⊎ Listed least places → FailsAt s claims least
      fails (inl e) = λ d l. absurd (omega arith)
      fails (inr h) = one-fails (chunks_of stretch visits) places least all h

-- one place more, and the least of it and those before
module _ (places : List ℕ) (n least next bound : ℕ) (l : n < length places) (less : next ≤ least) (at : next ≤ get_or places n 0)
    (below : (k d : ℕ) → k < n → least ≤ get_or places k d) where
  same_place : (xs : List ℕ) (k d e : ℕ) → k < length xs → get_or xs k d ≡ get_or xs k e
  same_place [] k d e m = absurd (omega arith)
  same_place (x ∷ xs) zero d e m = λ i. x
  same_place (x ∷ xs) (suc k) d e m = same_place xs k d e (omega arith)

  pub below-more : (k d : ℕ) → k < n + 1 → next ≤ get_or places k d
  below-more k d m = by (cases_eq k n)
    where
      by : (k ≡ n) ⊎ (k ≢ n) → next ≤ get_or places k d
      by (inl i) =
          let is : get_or places n 0 ≡ get_or places k d = same_place places n 0 d l ∙ ap (λ (j : ℕ). get_or places j d) (sym i) in
          omega arith
      by (inr other) = let before = below k d (omega arith) in omega arith
