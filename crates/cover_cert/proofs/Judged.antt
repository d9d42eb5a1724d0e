-- What is judged by codes and by cells, and what the steps of it tell.
use Rattle.std.proofs.Common.{inl, inr, ◌≡◌, ◌≢◌, ◌⊎◌, ℕ, zero, suc, ◌+◌, ◌-◌, ◌^◌, ◌<◌, ◌≤◌, Bool, true, false, cond, not, ◌&&◌, eqb, ltb, leb, refl, sym, ap, ap₂, ◌∙◌, subst, arith, List, [], ◌∷◌, length, get_or, map, Option, Some, None}
use Rattle.std.specs.List.{All, list_any, list_all, flat_map}
use Rattle.std.proofs.lemmas.Bool.{false≢true, and_parts, leb-true, ltb-true, eqb-true, eq-eqb, not-false}
use Rattle.col_set.specs.declared.target.Target.{Target}
use Rattle.col_set.specs.declared.target.Target.TheVariants.{Col, RowId}
use Rattle.col_set.specs.ColSet.{upto, all_sets}
use Rattle.col_set.specs.Evidence.{least}
use Rattle.col_set.specs.Target.{has_target}
use Rattle.col_set.specs.Minimal.{is_minimal}
use Rattle.col_set.specs.Evidence.{refuted}
use Rattle.col_set.specs.Lists.{Listed, Listed-append_cases, Listed-map_which, Listed-flat_map_which, Listed-filter_parts, list_any_at, list_any_which}
use Rattle.col_set.specs.AllSets.{all_sets_below, Listed-upto_within}
use Rattle.col_set.specs.Subsets.{same_test}
use Rattle.col_set.proofs.Places.{Contains-listed, Listed-contained}
use Rattle.rel_base.specs.CodeTable.{CodeTable, IsCodeTable, live_at}
use Rattle.rel_base.specs.RowState.{RowState, IsRowState}
use Rattle.rel_base.specs.Shows.{Shows}
use Rattle.rel_base.specs.Covers.{least_covers, fds_to}
use Rattle.rel_base.proofs.States.{All-from}
use Rattle.rel_base.proofs.Shown.{live_numbers-shown, code_agree-shown, holds_in-shown}
use Rattle.cover_cert.specs.declared.line.RowPair.{RowPair}
use Rattle.cover_cert.specs.declared.line.Claim.{Claim}
use Rattle.cover_cert.specs.declared.part.Part.TheVariants as part
use Rattle.cover_cert.specs.declared.answer.Answer.{Answer}
use Rattle.cover_cert.specs.declared.answer.Answer.TheVariants.{Yes, No}
use Rattle.cover_cert.specs.declared.answer.Flaw.TheVariants as flaw
use Rattle.cover_cert.specs.declared.listing.Listing.{Listing}
use Rattle.cover_cert.specs.Form.{Said, IsListing, form_flaw, pairs_in, claims_in, shapes_in, same_shape}
use Rattle.cover_cert.specs.Comparing.{claims_to, claim_of, claims_of, departs_at, first_where}
use Rattle.cover_cert.specs.Certificates.{Rows, rows_of, rows_in, shape_of, shape_flaw, names_rows, pair_flaw, agree_sets_of, first_claim, least_flaw, fails, fails_flaw, no_or, judged, answer_by}
use Rattle.cover_cert.specs.Holding.{IsWithin}
use Rattle.cover_cert.proofs.Firsts.{first_where-same, none-first_where, departs-none}

-- ---- by codes and by cells
module _ (a b : Rows) (text : Said) (columns : a.columns ≡ b.columns) (count : a.count ≡ b.count) (names : (p : RowPair) → names_rows a p ≡ names_rows b p)
    (agree : (p : RowPair) → names_rows a p ≡ true → a.agree p.first p.second ≡ b.agree p.first p.second) (holds : (x : ℕ) (t : Target) → a.holds x t ≡ b.holds x t) where
  same_sets : (ps : List RowPair) → ((k : ℕ) (d : RowPair) → k < length ps → names_rows a (get_or ps k d) ≡ true) → agree_sets_of a ps ≡ agree_sets_of b ps
  same_sets [] f = refl
  same_sets (p ∷ ps) f = ap₂ (λ (w : ℕ) (ws : List ℕ). w ∷ ws) (agree p (f 0 p (omega arith))) (same_sets ps (λ k d l. f (suc k) d (omega arith)))

  shape-same : shape_flaw a text ≡ shape_flaw b text
  shape-same = ap₂ (λ (n m : ℕ). let o : Option ℕ = cond (list_all (same_shape (record { columns = n; rows = m })) (shapes_in text)) None (Some 1) in o) columns count

  pair-same : pair_flaw a text ≡ pair_flaw b text
  pair-same = first_where-same (λ p. not (names_rows a p)) (λ p. not (names_rows b p)) 2 (pairs_in text) (λ p. ap not (names p))

  fails-same : fails_flaw a text ≡ fails_flaw b text
  fails-same = first_where-same (fails a) (fails b) (first_claim text) (claims_in text) (λ c. ap not (holds c.left c.target))

  least-same : pair_flaw a text ≡ None → least_flaw a text ≡ least_flaw b text
  least-same e =
      let all = none-first_where (λ p. not (names_rows a p)) 2 (pairs_in text) e in
      ap₂ (λ (n : ℕ) (ws : List ℕ). departs_at (first_claim text) (claims_of (least_covers n ws)) (claims_in text)) columns
      (same_sets (pairs_in text) (λ k d l. not-false (names_rows a (get_or (pairs_in text) k d)) (all k d l)))

  pub judged-same : judged a text ≡ judged b text
  judged-same = ap₂ (λ (o : Option ℕ) (rest : Answer). no_or flaw.Shape o rest) shape-same (by (pair_flaw a text) refl)
    where
      by : (o : Option ℕ) → pair_flaw a text ≡ o
          → no_or flaw.Pair (pair_flaw a text) (no_or flaw.Least (least_flaw a text) (no_or flaw.Fails (fails_flaw a text) Yes))
          ≡ no_or flaw.Pair (pair_flaw b text) (no_or flaw.Least (least_flaw b text) (no_or flaw.Fails (fails_flaw b text) Yes))
      by (Some n) e =
          ap (λ (o : Option ℕ). no_or flaw.Pair o (no_or flaw.Least (least_flaw a text) (no_or flaw.Fails (fails_flaw a text) Yes))) e
          ∙ sym (ap (λ (o : Option ℕ). no_or flaw.Pair o (no_or flaw.Least (least_flaw b text) (no_or flaw.Fails (fails_flaw b text) Yes))) (sym pair-same ∙ e))
      by None e =
          ap₂ (λ (o : Option ℕ) (rest : Answer). no_or flaw.Pair o rest) pair-same
          (ap₂ (λ (o p : Option ℕ). no_or flaw.Least o (no_or flaw.Fails p Yes)) (least-same e) fails-same)

  pub answer-same : answer_by a text ≡ answer_by b text
  unfolding answer_by
  answer-same = ap (no_or flaw.Form (form_flaw part.Start 1 text)) judged-same

-- ---- what a pair that names rows is
pub record Names (rows : Rows) (p : RowPair) : Type 0 where
  pub positive : 1 ≤ p.first
  pub rising : p.first < p.second
  pub first : rows.is_live p.first ≡ true
  pub second : rows.is_live p.second ≡ true

pub names-parts : (rows : Rows) (p : RowPair) → names_rows rows p ≡ true → Names rows p
names-parts rows p e =
    let u = and_parts _ _ e in let v = and_parts _ _ u.0 in let w = and_parts _ _ v.0 in
    record { positive = leb-true 1 p.first w.0; rising = ltb-true p.first p.second w.1; first = v.1; second = u.1 }

inside : (xs : List Bool) (k : ℕ) → get_or xs k false ≡ true → k < length xs
inside [] k e = absurd (false≢true e)
inside (x ∷ xs) zero e = omega arith
inside (x ∷ xs) (suc k) e = let l = inside xs k e in omega arith

live_below : (s : CodeTable) (i : ℕ) → IsCodeTable s → 1 ≤ i → live_at s i ≡ true → i < s.to
live_below s i is p e = let l = inside s.live (i - 1) e in let f = is.flagged in omega arith

pub first_below : (s : CodeTable) (p : RowPair) → IsCodeTable s → names_rows (rows_in s) p ≡ true → p.first < s.to
first_below s p is e = let n = names-parts (rows_in s) p e in live_below s p.first is n.positive n.first

pub second_below : (s : CodeTable) (p : RowPair) → IsCodeTable s → names_rows (rows_in s) p ≡ true → p.second < s.to
second_below s p is e = let n = names-parts (rows_in s) p e in let a = n.positive in let b = n.rising in live_below s p.second is (omega arith) n.second

-- ---- a snapshot that shows the rows
module _ (s : CodeTable) (r : RowState) (is : IsRowState r) (shows : Shows s r) where
  live-same : (i : ℕ) → 0 < i → live_at s i ≡ list_any (eqb i) r.live
  live-same i p = same_test _ _
      (λ e. let h = Listed-contained i r.live ((shows.live i p).0 e) in list_any_at (eqb i) i r.live h (eq-eqb i i refl))
      (λ e. let w = list_any_which (eqb i) r.live e in (shows.live i p).1 (Contains-listed i r.live (subst (λ (k : ℕ). Listed k r.live) (sym (eqb-true i w.0 w.2)) w.1)))

  names-shown : (p : RowPair) → names_rows (rows_in s) p ≡ names_rows (rows_of r) p
  names-shown p = by (leb 1 p.first) (ltb p.first p.second) refl refl
    where
      by : (b c : Bool) → leb 1 p.first ≡ b → ltb p.first p.second ≡ c → names_rows (rows_in s) p ≡ names_rows (rows_of r) p
      by true true e f = let l = leb-true 1 p.first e in let m = ltb-true p.first p.second f in
          ap₂ (λ (x y : Bool). leb 1 p.first && ltb p.first p.second && x && y) (live-same p.first (omega arith)) (live-same p.second (omega arith))
      by true false e f =
          ap (λ b. leb 1 p.first && b && live_at s p.first && live_at s p.second) f ∙ neither (leb 1 p.first)
          ∙ sym (ap (λ b. leb 1 p.first && b && list_any (eqb p.first) r.live && list_any (eqb p.second) r.live) f ∙ neither' (leb 1 p.first))
        where
          neither : (b : Bool) → (b && false && live_at s p.first && live_at s p.second) ≡ false
          neither true = refl
          neither false = refl

          neither' : (b : Bool) → (b && false && list_any (eqb p.first) r.live && list_any (eqb p.second) r.live) ≡ false
          neither' true = refl
          neither' false = refl
      by false c e f =
          ap (λ b. b && ltb p.first p.second && live_at s p.first && live_at s p.second) e
          ∙ sym (ap (λ b. b && ltb p.first p.second && list_any (eqb p.first) r.live && list_any (eqb p.second) r.live) e)

  differ : (i j : ℕ) → i < j → i ≢ j
  differ i j l e = omega arith

  agree-shown : (p : RowPair) → names_rows (rows_in s) p ≡ true → (rows_in s).agree p.first p.second ≡ (rows_of r).agree p.first p.second
  agree-shown p e =
      let n = names-parts (rows_in s) p e in let l = n.positive in let m = n.rising in
      code_agree-shown s r is shows p.first p.second ((shows.live p.first (omega arith)).0 n.first) ((shows.live p.second (omega arith)).0 n.second) (differ p.first p.second n.rising)

  pub answer-shown : (text : Said) → answer_by (rows_in s) text ≡ answer_by (rows_of r) text
  answer-shown text = answer-same (rows_in s) (rows_of r) text shows.columns (ap length (live_numbers-shown s r is shows)) names-shown agree-shown (λ x t. holds_in-shown s r is shows x t)

-- ---- what the agree sets leave lies within the columns
module _ (n : ℕ) (ws : List ℕ) where
  left_below : (t : Target) (x : ℕ) → Listed x (least n ws t) → x < 2 ^ n
  unfolding least
  left_below t x h = all_sets_below n x (Listed-filter_parts (λ x. not (has_target x t) && is_minimal n (λ y. not (refuted ws t y)) x) x (all_sets n) h).0

  pub wanted-within : All (IsWithin n) (claims_of (least_covers n ws))
  unfolding least_covers
  wanted-within = All-from (IsWithin n) (claims_of (least_covers n ws)) (λ c h. by c (Listed-append_cases c (claims_to RowId (least n ws RowId)) (map claim_of (flat_map (λ a. fds_to a (least n ws (Col a))) (upto n))) h))
    where
      by : (c : Claim) → Listed c (claims_to RowId (least n ws RowId)) ⊎ Listed c (map claim_of (flat_map (λ a. fds_to a (least n ws (Col a))) (upto n))) → IsWithin n c
      by c (inl h) = let w = Listed-map_which (λ left. record { left = left; target = RowId }) c (least n ws RowId) h in
          subst (IsWithin n) (sym w.2) (record { left = left_below RowId w.0 w.1; target = tt })
      by c (inr h) =
          let w = Listed-map_which claim_of c (flat_map (λ a. fds_to a (least n ws (Col a))) (upto n)) h in
          let v = Listed-flat_map_which (λ a. fds_to a (least n ws (Col a))) w.0 (upto n) w.1 in
          let u = Listed-map_which (λ x. record { left = x; right = v.0 }) w.0 (least n ws (Col v.0)) v.2 in
          subst (IsWithin n) (sym (w.2 ∙ ap claim_of u.2)) (record { left = left_below (Col v.0) u.0 u.1; target = Listed-upto_within n v.0 v.1 })

-- ---- what is said step by step
module _ (rows : Rows) (text : Said) (listing : Listing) (is : IsListing (shape_of rows) text listing) where
  abbrev rest_shape : Answer
  rest_shape = no_or flaw.Pair (pair_flaw rows text) (no_or flaw.Least (least_flaw rows text) (no_or flaw.Fails (fails_flaw rows text) Yes))

  pub say-shape : listing.is_shaped ≡ false → No 1 flaw.Shape ≡ judged rows text
  say-shape e = sym (ap (λ b. no_or flaw.Shape (cond b None (Some 1)) rest_shape) (sym is.shaped ∙ e))

  shape-passes : listing.is_shaped ≡ true → rest_shape ≡ judged rows text
  shape-passes e = sym (ap (λ b. no_or flaw.Shape (cond b None (Some 1)) rest_shape) (sym is.shaped ∙ e))

  pair-is : (o : Option ℕ) → o ≡ first_where (λ p. not (names_rows rows p)) 2 listing.pairs.items → pair_flaw rows text ≡ o
  pair-is o e = ap (first_where (λ p. not (names_rows rows p)) 2) (sym is.pairs) ∙ sym e

  pub say-pair : listing.is_shaped ≡ true → (n : ℕ) → Some n ≡ first_where (λ p. not (names_rows rows p)) 2 listing.pairs.items → No n flaw.Pair ≡ judged rows text
  say-pair e n f = sym (ap (λ (o : Option ℕ). no_or flaw.Pair o (no_or flaw.Least (least_flaw rows text) (no_or flaw.Fails (fails_flaw rows text) Yes))) (pair-is (Some n) f)) ∙ shape-passes e

  pair-passes : listing.is_shaped ≡ true → None ≡ first_where (λ p. not (names_rows rows p)) 2 listing.pairs.items → no_or flaw.Least (least_flaw rows text) (no_or flaw.Fails (fails_flaw rows text) Yes) ≡ judged rows text
  pair-passes e f = sym (ap (λ (o : Option ℕ). no_or flaw.Pair o (no_or flaw.Least (least_flaw rows text) (no_or flaw.Fails (fails_flaw rows text) Yes))) (pair-is None f)) ∙ shape-passes e

  module _ (first : ℕ) (at : first ≡ length listing.pairs.items + 2) (shaped : listing.is_shaped ≡ true) (paired : None ≡ first_where (λ p. not (names_rows rows p)) 2 listing.pairs.items) where
    first-is : first ≡ first_claim text
    first-is = let l : length listing.pairs.items ≡ length (pairs_in text) = ap length is.pairs in omega arith

    least-is : (o : Option ℕ) → o ≡ departs_at first (claims_of (least_covers rows.columns (agree_sets_of rows listing.pairs.items))) listing.claims.items → least_flaw rows text ≡ o
    least-is o e =
        ap (λ (n : ℕ). departs_at n (claims_of (least_covers rows.columns (agree_sets_of rows (pairs_in text)))) (claims_in text)) (sym first-is)
        ∙ ap₂ (λ (ps : List RowPair) (cs : List Claim). departs_at first (claims_of (least_covers rows.columns (agree_sets_of rows ps))) cs) (sym is.pairs) (sym is.claims) ∙ sym e

    pub say-least : (n : ℕ) → Some n ≡ departs_at first (claims_of (least_covers rows.columns (agree_sets_of rows listing.pairs.items))) listing.claims.items → No n flaw.Least ≡ judged rows text
    say-least n e = sym (ap (λ (o : Option ℕ). no_or flaw.Least o (no_or flaw.Fails (fails_flaw rows text) Yes)) (least-is (Some n) e)) ∙ pair-passes shaped paired

    module _ (same : None ≡ departs_at first (claims_of (least_covers rows.columns (agree_sets_of rows listing.pairs.items))) listing.claims.items) where
      pub claims-within : All (IsWithin rows.columns) listing.claims.items
      claims-within = subst (All (IsWithin rows.columns)) (sym (departs-none first (claims_of (least_covers rows.columns (agree_sets_of rows listing.pairs.items))) listing.claims.items (sym same)))
          (wanted-within rows.columns (agree_sets_of rows listing.pairs.items))

      least-passes : no_or flaw.Fails (fails_flaw rows text) Yes ≡ judged rows text
      least-passes = sym (ap (λ (o : Option ℕ). no_or flaw.Least o (no_or flaw.Fails (fails_flaw rows text) Yes)) (least-is None same)) ∙ pair-passes shaped paired

      fails-is : (o : Option ℕ) → o ≡ first_where (fails rows) first listing.claims.items → fails_flaw rows text ≡ o
      fails-is o e = ap₂ (λ (n : ℕ) (cs : List Claim). first_where (fails rows) n cs) (sym first-is) (sym is.claims) ∙ sym e

      pub say-fails : (n : ℕ) → Some n ≡ first_where (fails rows) first listing.claims.items → No n flaw.Fails ≡ judged rows text
      say-fails n e = sym (ap (λ (o : Option ℕ). no_or flaw.Fails o Yes) (fails-is (Some n) e)) ∙ least-passes

      pub say-yes : None ≡ first_where (fails rows) first listing.claims.items → Yes ≡ judged rows text
      say-yes e = sym (ap (λ (o : Option ℕ). no_or flaw.Fails o Yes) (fails-is None e)) ∙ least-passes

pub odd-less : (rows : Rows) (pairs : List RowPair) → None ≡ first_where (λ p. not (names_rows rows p)) 2 pairs → All (λ p. names_rows rows p ≡ true) pairs
odd-less rows pairs e k d l = not-false (names_rows rows (get_or pairs k d)) (none-first_where (λ p. not (names_rows rows p)) 2 pairs (sym e) k d l)

-- ---- what a text comes to
pub out-of-form : (rows : Rows) (text : Said) (n : ℕ) → form_flaw part.Start 1 text ≡ Some n → No n flaw.Form ≡ answer_by rows text
unfolding answer_by
out-of-form rows text n e = sym (ap (λ (o : Option ℕ). no_or flaw.Form o (judged rows text)) e)

pub of-form : (rows : Rows) (text : Said) (a : Answer) → form_flaw part.Start 1 text ≡ None → a ≡ judged rows text → a ≡ answer_by rows text
unfolding answer_by
of-form rows text a e f = f ∙ sym (ap (λ (o : Option ℕ). no_or flaw.Form o (judged rows text)) e)

-- lines that are what agree sets leave lie within the columns
pub within-wanted : (n m : ℕ) (ws : List ℕ) (first : ℕ) (claims : List Claim) → n ≡ m → None ≡ departs_at first (claims_of (least_covers n ws)) claims → All (IsWithin m) claims
within-wanted n m ws first claims i e = subst (λ (k : ℕ). All (IsWithin k) claims) i (subst (All (IsWithin n)) (sym (departs-none first (claims_of (least_covers n ws)) claims (sym e))) (wanted-within n ws))
