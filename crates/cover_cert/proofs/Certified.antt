-- A text of which yes is said is a certificate, yes is said of each certificate, and it lists the covers.
use Rattle.std.proofs.Common.{inl, inr, ◌≡◌, ◌≢◌, ◌⊎◌, ℕ, zero, suc, ◌+◌, ◌<◌, ◌≤◌, Bool, true, false, cond, not, eqb, refl, sym, ap, ap₂, ◌∙◌, subst, arith, List, [], ◌∷◌, ◌++◌, length, get_or, map, Option, Some, None}
use Rattle.std.specs.List.{All, list_any, list_all, Contains, range_with_len}
use Rattle.std.proofs.lemmas.Bool.{false≢true, true≢false, and_parts, and_from, le-leb, leb-true, lt-ltb, ltb-true, cases_eq, eqb-true, eq-eqb, not-false}
use Rattle.std.proofs.lemmas.Option.{none-some}
use Rattle.col_set.specs.declared.target.Target.{Target}
use Rattle.col_set.specs.declared.target.Target.TheVariants.{Col, RowId}
use Rattle.col_set.specs.Lists.{Listed, Listed-append_left, Listed-append_right, Listed-append_cases, Listed-map, Listed-map_which, list_any_at, list_any_which}
use Rattle.col_set.specs.AllSets.{Ascends-range, Ascends_within}
use Rattle.col_set.proofs.Places.{Contains-listed, Listed-contained, Listed-get_or}
use Rattle.rel_base.specs.declared.dependency.Fd.{Fd}
use Rattle.rel_base.specs.RowState.{RowState, IsRowState, width}
use Rattle.rel_base.specs.Validity.{agree_of, holds, Holds}
use Rattle.rel_base.specs.Covers.{CoverLists, covers, least_covers}
use Rattle.rel_base.specs.Laws.{IsAgreeSet, AllHold}
use Rattle.rel_base.proofs.States.{All-listed, All-from, live_climbs}
use Rattle.rel_base.proofs.Valid.{Holds-tested, holds-true}
use Rattle.rel_base.proofs.Whole.{least_covers-whole}
use Rattle.cover_cert.specs.declared.line.Line.{Line}
use Rattle.cover_cert.specs.declared.line.Line.TheVariants as line
use Rattle.cover_cert.specs.declared.line.Shape.{Shape}
use Rattle.cover_cert.specs.declared.line.RowPair.{RowPair}
use Rattle.cover_cert.specs.declared.line.Claim.{Claim}
use Rattle.cover_cert.specs.declared.part.Part.TheVariants as part
use Rattle.cover_cert.specs.declared.answer.Answer.{Answer}
use Rattle.cover_cert.specs.declared.answer.Answer.TheVariants.{Yes}
use Rattle.cover_cert.specs.declared.answer.Flaw.{Flaw}
use Rattle.cover_cert.specs.declared.answer.Flaw.TheVariants as flaw
use Rattle.cover_cert.specs.Form.{Said, said, form_flaw, shapes_in, pairs_in, claims_in, same_shape}
use Rattle.cover_cert.specs.Comparing.{claims_to, claim_of, claims_of, departs_at}
use Rattle.cover_cert.specs.Certificates.{rows_of, shape_of, shape_flaw, names_rows, pair_flaw, agree_sets_of, first_claim, least_flaw, fails, fails_flaw, no_or, judged, answer_by}
use Rattle.cover_cert.specs.Laws.{NamesRows, RowsHaveTheirNumbers, lines_of, left_by, YesIsSaidOfCertificates, CertificatesListCovers}
use Rattle.cover_cert.proofs.Firsts.{first_where-none, none-first_where, departs-none, none-departs}

-- ---- the lines of a text in form
abbrev fd_lines : List Fd → List Line
fd_lines fds = map line.Fd fds ++ line.End ∷ []

abbrev key_lines : List ℕ → List Fd → List Line
key_lines keys fds = map line.Key keys ++ fd_lines fds

abbrev pair_lines : List RowPair → List ℕ → List Fd → List Line
pair_lines pairs keys fds = map line.Pair pairs ++ key_lines keys fds

record FdsLeft (left : Said) : Type 0 where
  fds : List Fd
  are : left ≡ map Some (fd_lines fds)

record KeysLeft (left : Said) : Type 0 where
  keys : List ℕ
  fds : List Fd
  are : left ≡ map Some (key_lines keys fds)

record PairsLeft (left : Said) : Type 0 where
  pairs : List RowPair
  keys : List ℕ
  fds : List Fd
  are : left ≡ map Some (pair_lines pairs keys fds)

ended : (n : ℕ) (left : Said) → form_flaw part.Ended n left ≡ None → left ≡ []
unfolding form_flaw
ended n [] e = refl
ended n (None ∷ left) e = absurd (none-some n (sym e))
ended n (Some (line.Cert s) ∷ left) e = absurd (none-some n (sym e))
ended n (Some (line.Pair p) ∷ left) e = absurd (none-some n (sym e))
ended n (Some (line.Key k) ∷ left) e = absurd (none-some n (sym e))
ended n (Some (line.Fd f) ∷ left) e = absurd (none-some n (sym e))
ended n (Some line.End ∷ left) e = absurd (none-some n (sym e))

at_fds : (n : ℕ) (left : Said) → form_flaw part.Fds n left ≡ None → FdsLeft left
unfolding form_flaw
at_fds n [] e = absurd (none-some n (sym e))
at_fds n (None ∷ left) e = absurd (none-some n (sym e))
at_fds n (Some (line.Cert s) ∷ left) e = absurd (none-some n (sym e))
at_fds n (Some (line.Pair p) ∷ left) e = absurd (none-some n (sym e))
at_fds n (Some (line.Key k) ∷ left) e = absurd (none-some n (sym e))
at_fds n (Some (line.Fd f) ∷ left) e = let rest = at_fds (suc n) left e in record { fds = f ∷ rest.fds; are = ap (λ (xs : Said). Some (line.Fd f) ∷ xs) rest.are }
at_fds n (Some line.End ∷ left) e = record { fds = []; are = ap (λ (xs : Said). Some line.End ∷ xs) (ended (suc n) left e) }

at_keys : (n : ℕ) (left : Said) → form_flaw part.Keys n left ≡ None → KeysLeft left
unfolding form_flaw
at_keys n [] e = absurd (none-some n (sym e))
at_keys n (None ∷ left) e = absurd (none-some n (sym e))
at_keys n (Some (line.Cert s) ∷ left) e = absurd (none-some n (sym e))
at_keys n (Some (line.Pair p) ∷ left) e = absurd (none-some n (sym e))
at_keys n (Some (line.Key k) ∷ left) e = let rest = at_keys (suc n) left e in record { keys = k ∷ rest.keys; fds = rest.fds; are = ap (λ (xs : Said). Some (line.Key k) ∷ xs) rest.are }
at_keys n (Some (line.Fd f) ∷ left) e = let rest = at_fds (suc n) left e in record { keys = []; fds = f ∷ rest.fds; are = ap (λ (xs : Said). Some (line.Fd f) ∷ xs) rest.are }
at_keys n (Some line.End ∷ left) e = record { keys = []; fds = []; are = ap (λ (xs : Said). Some line.End ∷ xs) (ended (suc n) left e) }

at_pairs : (n : ℕ) (left : Said) → form_flaw part.Pairs n left ≡ None → PairsLeft left
unfolding form_flaw
at_pairs n [] e = absurd (none-some n (sym e))
at_pairs n (None ∷ left) e = absurd (none-some n (sym e))
at_pairs n (Some (line.Cert s) ∷ left) e = absurd (none-some n (sym e))
at_pairs n (Some (line.Pair p) ∷ left) e = let rest = at_pairs (suc n) left e in record { pairs = p ∷ rest.pairs; keys = rest.keys; fds = rest.fds; are = ap (λ (xs : Said). Some (line.Pair p) ∷ xs) rest.are }
at_pairs n (Some (line.Key k) ∷ left) e = let rest = at_keys (suc n) left e in record { pairs = []; keys = k ∷ rest.keys; fds = rest.fds; are = ap (λ (xs : Said). Some (line.Key k) ∷ xs) rest.are }
at_pairs n (Some (line.Fd f) ∷ left) e = let rest = at_fds (suc n) left e in record { pairs = []; keys = []; fds = f ∷ rest.fds; are = ap (λ (xs : Said). Some (line.Fd f) ∷ xs) rest.are }
at_pairs n (Some line.End ∷ left) e = record { pairs = []; keys = []; fds = []; are = ap (λ (xs : Said). Some line.End ∷ xs) (ended (suc n) left e) }

record InForm (text : Said) : Type 0 where
  shape : Shape
  pairs : List RowPair
  keys : List ℕ
  fds : List Fd
  are : text ≡ map Some (line.Cert shape ∷ pair_lines pairs keys fds)

in_form : (text : Said) → form_flaw part.Start 1 text ≡ None → InForm text
unfolding form_flaw
in_form [] e = absurd (none-some 1 (sym e))
in_form (None ∷ left) e = absurd (none-some 1 (sym e))
in_form (Some (line.Cert s) ∷ left) e = let rest = at_pairs 2 left e in record { shape = s; pairs = rest.pairs; keys = rest.keys; fds = rest.fds; are = ap (λ (xs : Said). Some (line.Cert s) ∷ xs) rest.are }
in_form (Some (line.Pair p) ∷ left) e = absurd (none-some 1 (sym e))
in_form (Some (line.Key k) ∷ left) e = absurd (none-some 1 (sym e))
in_form (Some (line.Fd f) ∷ left) e = absurd (none-some 1 (sym e))
in_form (Some line.End ∷ left) e = absurd (none-some 1 (sym e))

-- and the other way round
fds_end : (n : ℕ) (fds : List Fd) → form_flaw part.Fds n (map Some (fd_lines fds)) ≡ None
unfolding form_flaw
fds_end n [] = refl
fds_end n (f ∷ fds) = fds_end (suc n) fds

keys_end : (n : ℕ) (keys : List ℕ) (fds : List Fd) → form_flaw part.Keys n (map Some (key_lines keys fds)) ≡ None
unfolding form_flaw
keys_end n [] [] = refl
keys_end n [] (f ∷ fds) = fds_end (suc n) fds
keys_end n (k ∷ keys) fds = keys_end (suc n) keys fds

pairs_end : (n : ℕ) (pairs : List RowPair) (keys : List ℕ) (fds : List Fd) → form_flaw part.Pairs n (map Some (pair_lines pairs keys fds)) ≡ None
unfolding form_flaw
pairs_end n [] [] [] = refl
pairs_end n [] [] (f ∷ fds) = fds_end (suc n) fds
pairs_end n [] (k ∷ keys) fds = keys_end (suc n) keys fds
pairs_end n (p ∷ pairs) keys fds = pairs_end (suc n) pairs keys fds

lines_end : (shape : Shape) (pairs : List RowPair) (keys : List ℕ) (fds : List Fd) → form_flaw part.Start 1 (map Some (line.Cert shape ∷ pair_lines pairs keys fds)) ≡ None
unfolding form_flaw
lines_end shape pairs keys fds = pairs_end 2 pairs keys fds

-- ---- what they list
no_pairs : (keys : List ℕ) (fds : List Fd) → pairs_in (map Some (key_lines keys fds)) ≡ []
no_pairs [] [] = refl
no_pairs [] (f ∷ fds) = no_pairs [] fds
no_pairs (k ∷ keys) fds = no_pairs keys fds

pairs_listed : (pairs : List RowPair) (keys : List ℕ) (fds : List Fd) → pairs_in (map Some (pair_lines pairs keys fds)) ≡ pairs
pairs_listed [] keys fds = no_pairs keys fds
pairs_listed (p ∷ pairs) keys fds = ap (λ (ps : List RowPair). p ∷ ps) (pairs_listed pairs keys fds)

no_shapes : (pairs : List RowPair) (keys : List ℕ) (fds : List Fd) → shapes_in (map Some (pair_lines pairs keys fds)) ≡ []
no_shapes [] [] [] = refl
no_shapes [] [] (f ∷ fds) = no_shapes [] [] fds
no_shapes [] (k ∷ keys) fds = no_shapes [] keys fds
no_shapes (p ∷ pairs) keys fds = no_shapes pairs keys fds

claims_listed : (pairs : List RowPair) (keys : List ℕ) (fds : List Fd) → claims_in (map Some (pair_lines pairs keys fds)) ≡ claims_to RowId keys ++ map claim_of fds
claims_listed [] [] [] = refl
claims_listed [] [] (f ∷ fds) = ap (λ (cs : List Claim). claim_of f ∷ cs) (claims_listed [] [] fds)
claims_listed [] (k ∷ keys) fds = ap (λ (cs : List Claim). record { left = k; target = RowId } ∷ cs) (claims_listed [] keys fds)
claims_listed (p ∷ pairs) keys fds = claims_listed pairs keys fds

-- a sequence has one list of keys and one of dependencies
abbrev head_claim : Claim → List Claim → Claim
head_claim d [] = d
head_claim d (c ∷ cs) = c

abbrev tail_claims : List Claim → List Claim
tail_claims [] = []
tail_claims (c ∷ cs) = cs

abbrev is_key : Target → Bool
is_key (Col a) = false
is_key RowId = true

abbrev column_in : Target → ℕ
column_in (Col a) = a
column_in RowId = 0

same_fds : (fds gds : List Fd) → map claim_of fds ≡ map claim_of gds → fds ≡ gds
same_fds [] [] e = refl
same_fds [] (g ∷ gds) e = let n : zero ≡ suc (length (map claim_of gds)) = ap length e in absurd (omega arith)
same_fds (f ∷ fds) [] e = let n : suc (length (map claim_of fds)) ≡ zero = ap length e in absurd (omega arith)
same_fds (f ∷ fds) (g ∷ gds) e =
    ap₂ (λ (x : Fd) (xs : List Fd). x ∷ xs)
    (ap₂ (λ (x a : ℕ). record { left = x; right = a }) (ap (λ (cs : List Claim). (head_claim (claim_of f) cs).left) e) (ap (λ (cs : List Claim). column_in (head_claim (claim_of f) cs).target) e))
    (same_fds fds gds (ap tail_claims e))

same_lists : (keys others : List ℕ) (fds gds : List Fd) → claims_to RowId keys ++ map claim_of fds ≡ claims_to RowId others ++ map claim_of gds → (keys ≡ others) × (fds ≡ gds)
same_lists [] [] fds gds e = (refl, same_fds fds gds e)
same_lists [] (o ∷ others) [] gds e = let n : zero ≡ suc (length (claims_to RowId others ++ map claim_of gds)) = ap length e in absurd (omega arith)
same_lists [] (o ∷ others) (f ∷ fds) gds e = absurd (false≢true (ap (λ (cs : List Claim). is_key (head_claim (claim_of f) cs).target) e))
same_lists (k ∷ keys) [] fds [] e = let n : suc (length (claims_to RowId keys ++ map claim_of fds)) ≡ zero = ap length e in absurd (omega arith)
same_lists (k ∷ keys) [] fds (g ∷ gds) e = absurd (true≢false (ap (λ (cs : List Claim). is_key (head_claim (claim_of g) cs).target) e))
same_lists (k ∷ keys) (o ∷ others) fds gds e =
    let rest = same_lists keys others fds gds (ap tail_claims e) in
    (ap₂ (λ (x : ℕ) (xs : List ℕ). x ∷ xs) (ap (λ (cs : List Claim). (head_claim (record { left = k; target = RowId }) cs).left) e) rest.0, rest.1)

-- ---- the answer
yes_parts : (why : Flaw) (o : Option ℕ) (next : Answer) → no_or why o next ≡ Yes → (o ≡ None) × (next ≡ Yes)
yes_parts why None next e = (refl, e)
yes_parts why (Some n) next e = absurd (cc)

if_none : (b : Bool) → (let o : Option ℕ = cond b None (Some 1) in o) ≡ None → b ≡ true
if_none true e = refl
if_none false e = absurd (none-some 1 (sym e))

module _ (r : RowState) (is : IsRowState r) (text : Said) where
  -- the flaws that a text has not
  record Sound : Type 0 where
    form : form_flaw part.Start 1 text ≡ None
    shape : shape_flaw (rows_of r) text ≡ None
    pair : pair_flaw (rows_of r) text ≡ None
    least : least_flaw (rows_of r) text ≡ None
    fails : fails_flaw (rows_of r) text ≡ None

  sound : answer_by (rows_of r) text ≡ Yes → Sound
  unfolding answer_by
  sound e =
      let a = yes_parts flaw.Form (form_flaw part.Start 1 text) _ e in
      let b = yes_parts flaw.Shape (shape_flaw (rows_of r) text) _ a.1 in
      let c = yes_parts flaw.Pair (pair_flaw (rows_of r) text) _ b.1 in
      let d = yes_parts flaw.Least (least_flaw (rows_of r) text) _ c.1 in
      let f = yes_parts flaw.Fails (fails_flaw (rows_of r) text) _ d.1 in
      record { form = a.0; shape = b.0; pair = c.0; least = d.0; fails = f.0 }

  says_yes : Sound → answer_by (rows_of r) text ≡ Yes
  unfolding answer_by
  says_yes s =
      ap (λ (o : Option ℕ). no_or flaw.Form o (judged (rows_of r) text)) s.form
      ∙ ap (λ (o : Option ℕ). no_or flaw.Shape o (no_or flaw.Pair (pair_flaw (rows_of r) text) (no_or flaw.Least (least_flaw (rows_of r) text) (no_or flaw.Fails (fails_flaw (rows_of r) text) Yes)))) s.shape
      ∙ ap (λ (o : Option ℕ). no_or flaw.Pair o (no_or flaw.Least (least_flaw (rows_of r) text) (no_or flaw.Fails (fails_flaw (rows_of r) text) Yes))) s.pair
      ∙ ap (λ (o : Option ℕ). no_or flaw.Least o (no_or flaw.Fails (fails_flaw (rows_of r) text) Yes)) s.least
      ∙ ap (λ (o : Option ℕ). no_or flaw.Fails o Yes) s.fails

  -- a pair by the test and by the fact
  live_at : (i : ℕ) → list_any (eqb i) r.live ≡ true → Contains r.live i
  live_at i e = let w = list_any_which (eqb i) r.live e in Contains-listed i r.live (subst (λ (k : ℕ). Listed k r.live) (sym (eqb-true i w.0 w.2)) w.1)

  at_live : (i : ℕ) → Contains r.live i → list_any (eqb i) r.live ≡ true
  at_live i h = list_any_at (eqb i) i r.live (Listed-contained i r.live h) (eq-eqb i i refl)

  named : (p : RowPair) → names_rows (rows_of r) p ≡ true → NamesRows r p
  named p e =
      let u = and_parts _ _ e in let v = and_parts _ _ u.0 in let w = and_parts _ _ v.0 in
      record { positive = leb-true 1 p.first w.0; rising = ltb-true p.first p.second w.1; first = live_at p.first v.1; second = live_at p.second u.1 }

  names : (p : RowPair) → NamesRows r p → names_rows (rows_of r) p ≡ true
  names p h = and_from _ _ (and_from _ _ (and_from _ _ (le-leb 1 p.first h.positive) (lt-ltb p.first p.second h.rising)) (at_live p.first h.first)) (at_live p.second h.second)

  -- its agree sets are some of the rows'
  all_agree : (pairs : List RowPair) → All (NamesRows r) pairs → (w : ℕ) → Listed w (agree_sets_of (rows_of r) pairs) → IsAgreeSet r w
  all_agree pairs a w h =
      let v = Listed-map_which (λ (p : RowPair). agree_of r p.first p.second) w pairs h in
      let n = All-listed (NamesRows r) v.0 pairs a v.1 in
      record { first = v.0.first; second = v.0.second; first_live = n.first; second_live = n.second; different = apart v.0.first v.0.second n.rising; agrees = v.2 }
    where
      apart : (i j : ℕ) → i < j → i ≢ j
      apart i j l e = omega arith

  left_is_covers : (pairs : List RowPair) → All (NamesRows r) pairs → AllHold r (left_by r pairs) → left_by r pairs ≡ covers r
  left_is_covers pairs a h = least_covers-whole r is (agree_sets_of (rows_of r) pairs) (all_agree pairs a) h

  -- what holds of all claims of some lists holds of the lists
  all_hold : (lists : CoverLists) → ((c : Claim) → Listed c (claims_of lists) → holds r c.left c.target ≡ true) → AllHold r lists
  all_hold lists f = record {
    keys = All-from (λ (x : ℕ). Holds r x RowId) lists.keys (λ x h. Holds-tested r x RowId
        (f (record { left = x; target = RowId }) (Listed-append_left (record { left = x; target = RowId }) (claims_to RowId lists.keys) (map claim_of lists.fds) (Listed-map (λ (x : ℕ). record { left = x; target = RowId }) x lists.keys h))));
    fds = All-from (λ (g : Fd). Holds r g.left (Col g.right)) lists.fds (λ g h. Holds-tested r g.left (Col g.right)
        (f (claim_of g) (Listed-append_right (claim_of g) (claims_to RowId lists.keys) (map claim_of lists.fds) (Listed-map claim_of g lists.fds h))));
  }

  hold_all : (lists : CoverLists) → AllHold r lists → (c : Claim) → Listed c (claims_of lists) → holds r c.left c.target ≡ true
  hold_all lists a c h = by (Listed-append_cases c (claims_to RowId lists.keys) (map claim_of lists.fds) h)
    where
      by : Listed c (claims_to RowId lists.keys) ⊎ Listed c (map claim_of lists.fds) → holds r c.left c.target ≡ true
      by (inl g) = let w = Listed-map_which (λ (x : ℕ). record { left = x; target = RowId }) c lists.keys g in
          ap (λ (c : Claim). holds r c.left c.target) w.2 ∙ holds-true r w.0 RowId (live_climbs r is) (All-listed (λ (x : ℕ). Holds r x RowId) w.0 lists.keys a.keys w.1)
      by (inr g) = let w = Listed-map_which claim_of c lists.fds g in
          ap (λ (c : Claim). holds r c.left c.target) w.2 ∙ holds-true r w.0.left (Col w.0.right) (live_climbs r is) (All-listed (λ (f : Fd). Holds r f.left (Col f.right)) w.0 lists.fds a.fds w.1)

  -- a text without a flaw
  module _ (s : Sound) where
    form : InForm text
    form = in_form text s.form

    pairs_are : pairs_in text ≡ form.pairs
    pairs_are = ap pairs_in form.are ∙ pairs_listed form.pairs form.keys form.fds

    shapes_are : shapes_in text ≡ form.shape ∷ []
    shapes_are = ap shapes_in form.are ∙ ap (λ (ss : List Shape). form.shape ∷ ss) (no_shapes form.pairs form.keys form.fds)

    claims_are : claims_in text ≡ claims_of (left_by r form.pairs)
    claims_are = departs-none (first_claim text) (claims_of (least_covers (width r) (agree_sets_of (rows_of r) (pairs_in text)))) (claims_in text) s.least
        ∙ ap (λ (ps : List RowPair). claims_of (left_by r ps)) pairs_are

    shape_is : form.shape ≡ shape_of (rows_of r)
    shape_is =
        let b : list_all (same_shape (shape_of (rows_of r))) (form.shape ∷ []) ≡ true = sym (ap (list_all (same_shape (shape_of (rows_of r)))) shapes_are) ∙ if_none (list_all (same_shape (shape_of (rows_of r))) (shapes_in text)) s.shape in
        let both = and_parts (same_shape (shape_of (rows_of r)) form.shape) true b in
        let p = and_parts (eqb form.shape.columns (width r)) (eqb form.shape.rows (length r.live)) both.0 in
        ap₂ (λ (n m : ℕ). record { columns = n; rows = m }) (eqb-true form.shape.columns (width r) p.0) (eqb-true form.shape.rows (length r.live) p.1)

    lists_are : (form.keys ≡ (left_by r form.pairs).keys) × (form.fds ≡ (left_by r form.pairs).fds)
    lists_are = same_lists form.keys (left_by r form.pairs).keys form.fds (left_by r form.pairs).fds
        (sym (ap claims_in form.are ∙ claims_listed form.pairs form.keys form.fds) ∙ claims_are)

    text_is : text ≡ map Some (lines_of (shape_of (rows_of r)) form.pairs (left_by r form.pairs))
    text_is = form.are
        ∙ ap (λ (h : Shape). map Some (line.Cert h ∷ pair_lines form.pairs form.keys form.fds)) shape_is
        ∙ ap₂ (λ (ks : List ℕ) (fs : List Fd). map Some (line.Cert (shape_of (rows_of r)) ∷ pair_lines form.pairs ks fs)) lists_are.0 lists_are.1

    all_named : All (NamesRows r) form.pairs
    all_named = subst (All (NamesRows r)) pairs_are
        (λ k d l. named (get_or (pairs_in text) k d) (not-false (names_rows (rows_of r) (get_or (pairs_in text) k d)) (none-first_where (λ p. not (names_rows (rows_of r) p)) 2 (pairs_in text) s.pair k d l)))

    claims_hold : (c : Claim) → Listed c (claims_in text) → holds r c.left c.target ≡ true
    claims_hold c h = let w = Contains-listed c (claims_in text) h in
        not-false (holds r c.left c.target) (subst (λ (d : Claim). fails (rows_of r) d ≡ false) w.2 (none-first_where (fails (rows_of r)) (first_claim text) (claims_in text) s.fails w.0 c w.1))

    held : AllHold r (left_by r form.pairs)
    held = all_hold (left_by r form.pairs) (λ c h. claims_hold c (subst (Listed c) (sym claims_are) h))

    lists_covers : claims_in text ≡ claims_of (covers r)
    lists_covers = claims_are ∙ ap claims_of (left_is_covers form.pairs all_named held)

  -- a text that has these lines
  module _ (pairs : List RowPair) (a : All (NamesRows r) pairs) (e : text ≡ map Some (lines_of (shape_of (rows_of r)) pairs (left_by r pairs))) (h : AllHold r (left_by r pairs)) where
    pairs_of : pairs_in text ≡ pairs
    pairs_of = ap pairs_in e ∙ pairs_listed pairs (left_by r pairs).keys (left_by r pairs).fds

    claims_from : claims_in text ≡ claims_of (left_by r pairs)
    claims_from = ap claims_in e ∙ claims_listed pairs (left_by r pairs).keys (left_by r pairs).fds

    same_size : list_all (same_shape (shape_of (rows_of r))) (shapes_in text) ≡ true
    same_size = ap (list_all (same_shape (shape_of (rows_of r)))) (ap shapes_in e ∙ ap (λ (ss : List Shape). shape_of (rows_of r) ∷ ss) (no_shapes pairs (left_by r pairs).keys (left_by r pairs).fds))
        ∙ and_from (same_shape (shape_of (rows_of r)) (shape_of (rows_of r))) true (and_from _ _ (eq-eqb (width r) (width r) refl) (eq-eqb (length r.live) (length r.live) refl)) refl

    certified : Sound
    certified = record {
      form = ap (form_flaw part.Start 1) e ∙ lines_end (shape_of (rows_of r)) pairs (left_by r pairs).keys (left_by r pairs).fds;
      shape = ap (λ b. let o : Option ℕ = cond b None (Some 1) in o) same_size;
      pair = first_where-none (λ p. not (names_rows (rows_of r) p)) 2 (pairs_in text) (λ k d l. ap not (names (get_or (pairs_in text) k d)
          (All-listed (NamesRows r) (get_or (pairs_in text) k d) (pairs_in text) (subst (All (NamesRows r)) (sym pairs_of) a) (Listed-get_or (pairs_in text) k d l))));
      least = ap₂ (λ (ps : List RowPair) (cs : List Claim). departs_at (first_claim text) (claims_of (left_by r ps)) cs) pairs_of claims_from ∙ none-departs (first_claim text) (claims_of (left_by r pairs));
      fails = first_where-none (fails (rows_of r)) (first_claim text) (claims_in text) (λ k d l. ap not (hold_all (left_by r pairs) h (get_or (claims_in text) k d)
          (subst (Listed (get_or (claims_in text) k d)) claims_from (Listed-get_or (claims_in text) k d l))));
    }

pub yes_is_said : YesIsSaidOfCertificates
yes_is_said r bytes is = (
  (λ e. let s = sound r is (said bytes) e in record {
    pairs = (form r is (said bytes) s).pairs;
    named = all_named r is (said bytes) s;
    text = text_is r is (said bytes) s;
    hold = held r is (said bytes) s;
  }),
  (λ c. says_yes r is (said bytes) (certified r is (said bytes) c.pairs c.named c.text c.hold)),
)

pub lists : CertificatesListCovers
lists r bytes is e = lists_covers r is (said bytes) (sound r is (said bytes) e)

-- ---- rows as they were read
Listed-range : (n a k : ℕ) → a ≤ k → k < a + n → Listed k (range_with_len a n)
Listed-range zero a k l h = absurd (omega arith)
Listed-range (suc n) a k l h = by (cases_eq k a) (λ m. Listed-range n (a + 1) k m (omega arith))
  where
    by : (k ≡ a) ⊎ (k ≢ a) → (a + 1 ≤ k → Listed k (range_with_len (a + 1) n)) → Listed k (range_with_len a (suc n))
    by (inl e) rest = inl e
    by (inr ne) rest = inr (rest (omega arith))

pub numbers : RowsHaveTheirNumbers
numbers nulls limit c p = (
  (λ h. let n = length c.rows in
      let w = Ascends_within 1 (1 + n) p.second (range_with_len 1 n) (Ascends-range n 1 (1 + n) refl) (Listed-contained p.second (range_with_len 1 n) h.second) in
      let l = w.1 in (h.positive, h.rising, omega arith)),
  (λ w. let n = length c.rows in let a = w.0 in let b = w.1 in let d = w.2 in record {
    positive = w.0;
    rising = w.1;
    first = Contains-listed p.first (range_with_len 1 n) (Listed-range n 1 p.first (omega arith) (omega arith));
    second = Contains-listed p.second (range_with_len 1 n) (Listed-range n 1 p.second (omega arith) (omega arith));
  }),
)
