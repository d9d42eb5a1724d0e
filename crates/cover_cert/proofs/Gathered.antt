-- Least sets as one sequence, one column after another.
use Rattle.std.proofs.Common.{◌≡◌, ℕ, ◌+◌, ◌<◌, ◌≤◌, true, false, arith, refl, sym, ap, ap₂, ◌∙◌, List, [], ◌∷◌, ◌++◌, length, map, append-nil, append_assoc, drop, Some, None}
use Rattle.std.proofs.lemmas.List.{map-append}
use Rattle.std.specs.List.{flat_map}
use Rattle.std.proofs.lemmas.List.Concat.{flat_map-append}
use Rattle.col_set.specs.declared.target.Target.TheVariants.{Col, RowId}
use Rattle.col_set.specs.ColSet.{upto}
use Rattle.col_set.specs.Evidence.{least}
use Rattle.rel_base.specs.Covers.{least_covers, fds_to}
use Rattle.stripped_partition.proofs.OrderLoops.{upto_more}
use Rattle.cover_cert.specs.declared.line.Claim.{Claim}
use Rattle.cover_cert.specs.declared.comparing.Compared.{Compared}
use Rattle.cover_cert.specs.Comparing.{claims_to, claim_of, claims_of, departs_at, departs_then}
use Rattle.cover_cert.proofs.Firsts.{then-departs, then-goes_on, departs-more, departs-end}

-- those for a column
abbrev pub column_claims : ℕ → List ℕ → ℕ → List Claim
column_claims n ws a = claims_to (Col a) (least n ws (Col a))

-- the keys, and the dependencies on so many columns
abbrev pub gathered : ℕ → List ℕ → ℕ → List Claim
gathered n ws k = claims_to RowId (least n ws RowId) ++ flat_map (column_claims n ws) (upto k)

module _ (n : ℕ) (ws : List ℕ) where
  pub gathered-none : gathered n ws 0 ≡ claims_to RowId (least n ws RowId)
  gathered-none = append-nil (claims_to RowId (least n ws RowId))

  pub gathered-more : (k : ℕ) (more : List Claim) → gathered n ws (k + 1) ++ more ≡ gathered n ws k ++ (column_claims n ws k ++ more)
  gathered-more k more =
      ap (λ (cs : List Claim). (claims_to RowId (least n ws RowId) ++ cs) ++ more)
      (ap (flat_map (column_claims n ws)) (upto_more k) ∙ flat_map-append (column_claims n ws) (upto k) (k ∷ []) ∙ ap (λ (cs : List Claim). flat_map (column_claims n ws) (upto k) ++ cs) (append-nil (column_claims n ws k)))
      ∙ ap (λ (cs : List Claim). cs ++ more) (sym (append_assoc (claims_to RowId (least n ws RowId)) (flat_map (column_claims n ws) (upto k)) (column_claims n ws k)))
      ∙ append_assoc (gathered n ws k) (column_claims n ws k) more

  as_claims : (a : ℕ) (xs : List ℕ) → map claim_of (fds_to a xs) ≡ claims_to (Col a) xs
  as_claims a [] = refl
  as_claims a (x ∷ xs) = ap (λ (cs : List Claim). record { left = x; target = Col a } ∷ cs) (as_claims a xs)

  each : (cs : List ℕ) → map claim_of (flat_map (λ a. fds_to a (least n ws (Col a))) cs) ≡ flat_map (column_claims n ws) cs
  each [] = refl
  each (a ∷ cs) = map-append claim_of (fds_to a (least n ws (Col a))) (flat_map (λ a. fds_to a (least n ws (Col a))) cs) ∙ ap₂ (λ (xs ys : List Claim). xs ++ ys) (as_claims a (least n ws (Col a))) (each cs)

  pub gathered-all : gathered n ws n ≡ claims_of (least_covers n ws)
  unfolding least_covers
  gathered-all = ap (λ (cs : List Claim). claims_to RowId (least n ws RowId) ++ cs) (sym (each (upto n)))

-- ---- how far it has been compared
module _ (n : ℕ) (ws : List ℕ) (number : ℕ) (claims : List Claim) where
  -- what is listed beside all that is wanted, told by what has been compared
  abbrev pub Told : ℕ → Compared → Type 0
  Told k so_far = (more : List Claim) → departs_at number (gathered n ws k ++ more) claims ≡ departs_then number claims so_far more

  pub told-start : (start so_far : Compared) → start.place ≡ 0 → start.departs ≡ false
      → ((m : ℕ) (more : List Claim) → departs_then m claims start (claims_to RowId (least n ws RowId) ++ more) ≡ departs_then m claims so_far more) → Told 0 so_far
  told-start start so_far e f told more =
      ap (λ (cs : List Claim). departs_at number (cs ++ more) claims) (gathered-none n ws)
      ∙ ap (λ (m : ℕ). departs_at m (claims_to RowId (least n ws RowId) ++ more) claims) (let s : number ≡ number + 0 = omega arith in s)
      ∙ ap (λ (p : ℕ). departs_at (number + p) (claims_to RowId (least n ws RowId) ++ more) (drop p claims)) (sym e)
      ∙ sym (then-goes_on number claims start (claims_to RowId (least n ws RowId) ++ more) f)
      ∙ told number more

-- ---- how far it has been compared, by the columns that are left
module _ (n : ℕ) (ws : List ℕ) (number : ℕ) (claims : List Claim) where
  -- what is left to compare
  abbrev pub left_of : List ℕ → List Claim
  left_of rest = flat_map (column_claims n ws) rest

  -- what is listed beside all that is wanted, by what has been compared and the columns that are left
  abbrev pub Left : Compared → List ℕ → Type 0
  Left so_far rest = departs_at number (claims_of (least_covers n ws)) claims ≡ departs_then number claims so_far (left_of rest)

  pub left-start : (start so_far : Compared) (rest : List ℕ) → start.place ≡ 0 → start.departs ≡ false
      → ((m : ℕ) (more : List Claim) → departs_then m claims start (claims_to RowId (least n ws RowId) ++ more) ≡ departs_then m claims so_far more) → rest ≡ upto n → Left so_far rest
  left-start start so_far rest e f told is =
      ap (λ (cs : List Claim). departs_at number cs claims) (sym (gathered-all n ws) ∙ ap (λ (cs : List Claim). cs ++ left_of (upto n)) (sym (gathered-none n ws)))
      ∙ told-start n ws number claims start so_far e f told (left_of (upto n)) ∙ ap (λ (cs : List ℕ). departs_then number claims so_far (left_of cs)) (sym is)

  pub left-more : (so_far next : Compared) (rest some later : List ℕ) (beside : List Claim) → Left so_far rest → some ++ later ≡ rest → beside ≡ left_of some
      → ((m : ℕ) (more : List Claim) → departs_then m claims so_far (beside ++ more) ≡ departs_then m claims next more) → Left next later
  left-more so_far next rest some later beside before parts is told =
      before ∙ ap (departs_then number claims so_far) (ap left_of (sym parts) ∙ flat_map-append (column_claims n ws) some later ∙ ap (λ (cs : List Claim). cs ++ left_of later) (sym is))
      ∙ told number (left_of later)

  pub left-departs : (so_far : Compared) (rest : List ℕ) → Left so_far rest → so_far.departs ≡ true → Some (number + so_far.place) ≡ departs_at number (claims_of (least_covers n ws)) claims
  left-departs so_far rest told d = sym (then-departs number claims so_far (left_of rest) d) ∙ sym told

  pub left-too_many : (so_far : Compared) (rest : List ℕ) → Left so_far rest → rest ≡ [] → so_far.departs ≡ false → so_far.place < length claims → Some (number + so_far.place) ≡ departs_at number (claims_of (least_covers n ws)) claims
  left-too_many so_far rest told none d l =
      sym (then-goes_on number claims so_far [] d ∙ departs-more number claims so_far.place l) ∙ ap (λ (cs : List ℕ). departs_then number claims so_far (left_of cs)) (sym none) ∙ sym told

  pub left-none : (so_far : Compared) (rest : List ℕ) → Left so_far rest → rest ≡ [] → so_far.departs ≡ false → length claims ≤ so_far.place → None ≡ departs_at number (claims_of (least_covers n ws)) claims
  left-none so_far rest told none d l =
      sym (then-goes_on number claims so_far [] d ∙ departs-end number claims so_far.place l) ∙ ap (λ (cs : List ℕ). departs_then number claims so_far (left_of cs)) (sym none) ∙ sym told
