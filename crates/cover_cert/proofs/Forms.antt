-- Lines one after another, and giant records.
use Rattle.std.proofs.Common.{◌≡◌, ◌≢◌, ℕ, suc, ◌+◌, ◌<◌, ◌≤◌, Bool, true, false, cond, ◌&&◌, eqb, refl, sym, ap, ◌∙◌, subst, arith, List, [], ◌∷◌, ◌++◌, length, map, append_assoc, append-nil, Option, Some, None}
use Rattle.std.proofs.lemmas.List.{map-append}
use Rattle.std.specs.List.{list_all}
use Rattle.std.proofs.lemmas.Bool.{ne_eqb}
use Rattle.rel_base.specs.Cells.{Row, cell}
use Rattle.csv_load.specs.Records.{records_of}
use Rattle.csv_load.specs.Parting.{IsParted}
use Rattle.cover_cert.specs.declared.line.Kind.{Kind}
use Rattle.cover_cert.specs.declared.line.Kind.TheVariants as kind
use Rattle.cover_cert.specs.declared.line.Line.{Line}
use Rattle.cover_cert.specs.declared.line.Line.TheVariants as line
use Rattle.cover_cert.specs.declared.line.Shape.{Shape}
use Rattle.cover_cert.specs.declared.line.RowPair.{RowPair}
use Rattle.cover_cert.specs.declared.line.Claim.{Claim}
use Rattle.cover_cert.specs.declared.part.Part.{Part}
use Rattle.cover_cert.specs.declared.part.Part.TheVariants as part
use Rattle.cover_cert.specs.declared.answer.Flaw.TheVariants as flaw
use Rattle.cover_cert.specs.Lines.{kind_of, fields_in, line_by, line_where, line_of}
use Rattle.cover_cert.specs.declared.listing.Listing.{Listing}
use Rattle.cover_cert.specs.Form.{Said, IsListing, said, place_of, after, out_or, form_flaw, shape_in, pair_in, claim_in, shapes_in, pairs_in, claims_in, same_shape}
use Rattle.cover_cert.specs.Certificates.{Rows, no_or, judged, answer_by}

-- ---- one record more
pub flaw-out : (before : Part) (number : ℕ) (one : Option Line) (others : Said) → after before one ≡ None → form_flaw before number (one ∷ others) ≡ Some number
unfolding form_flaw
flaw-out before number one others e = ap (λ (o : Option Part). out_or o number (λ next. form_flaw next (suc number) others)) e

pub flaw-next : (before next : Part) (number : ℕ) (one : Option Line) (others : Said) → after before one ≡ Some next → form_flaw before number (one ∷ others) ≡ form_flaw next (number + 1) others
unfolding form_flaw
flaw-next before next number one others e = ap (λ (o : Option Part). out_or o number (λ next. form_flaw next (suc number) others)) e
    ∙ ap (λ (n : ℕ). form_flaw next n others) (let s : suc number ≡ number + 1 = omega arith in s)

pub flaw-end : (before : Part) (number : ℕ) → eqb (place_of before) 4 ≡ true → form_flaw before number [] ≡ None
unfolding form_flaw
flaw-end before number e = ap (λ b. let o : Option ℕ = cond b None (Some number) in o) e

pub flaw-open : (before : Part) (number : ℕ) → eqb (place_of before) 4 ≡ false → form_flaw before number [] ≡ Some number
unfolding form_flaw
flaw-open before number e = ap (λ b. let o : Option ℕ = cond b None (Some number) in o) e

-- ---- what has been read of a text
pub record ReadTo (wanted : Shape) (text : Said) (at : Part) (number : ℕ) (is_shaped : Bool) (pairs : List RowPair) (claims : List Claim) (left : Said) : Type 0 where
  pub form : form_flaw part.Start 1 text ≡ form_flaw at number left
  pub shaped : list_all (same_shape wanted) (shapes_in text) ≡ (is_shaped && list_all (same_shape wanted) (shapes_in left))
  pub pairs_are : pairs_in text ≡ pairs ++ pairs_in left
  pub claims_are : claims_in text ≡ claims ++ claims_in left
  pub few : length pairs + length claims + 1 ≤ number

and_assoc : (a b c : Bool) → (a && (b && c)) ≡ ((a && b) && c)
and_assoc true b c = refl
and_assoc false b c = refl

shaped_line : (wanted : Shape) (one : Line) (left : Said) → list_all (same_shape wanted) (shapes_in (Some one ∷ left)) ≡ (list_all (same_shape wanted) (shape_in (Some one)) && list_all (same_shape wanted) (shapes_in left))
shaped_line wanted (line.Cert s) left = step (same_shape wanted s)
  where
    step : (b : Bool) → (b && list_all (same_shape wanted) (shapes_in left)) ≡ ((b && true) && list_all (same_shape wanted) (shapes_in left))
    step true = refl
    step false = refl
shaped_line wanted (line.Pair p) left = refl
shaped_line wanted (line.Key k) left = refl
shaped_line wanted (line.Fd f) left = refl
shaped_line wanted line.End left = refl

one_at_most : (one : Line) → length (pair_in (Some one)) + length (claim_in (Some one)) ≤ 1
one_at_most (line.Cert s) = omega arith
one_at_most (line.Pair p) = omega arith
one_at_most (line.Key k) = omega arith
one_at_most (line.Fd f) = omega arith
one_at_most line.End = omega arith

length-both : {A : Type 0} (xs ys : List A) → length (xs ++ ys) ≡ length xs + length ys
length-both [] ys = omega arith
length-both (x ∷ xs) ys = let e = length-both xs ys in omega arith

module _ (wanted : Shape) (text : Said) where
  pub read-start : (b : Bool) (pairs : List RowPair) (claims : List Claim) → b ≡ true → pairs ≡ [] → claims ≡ [] → ReadTo wanted text part.Start 1 b pairs claims text
  read-start b pairs claims e f g = record {
    form = refl;
    shaped = ap (λ b. b && list_all (same_shape wanted) (shapes_in text)) (sym e);
    pairs_are = ap (λ (ps : List RowPair). ps ++ pairs_in text) (sym f);
    claims_are = ap (λ (cs : List Claim). cs ++ claims_in text) (sym g);
    few = (let p : length pairs ≡ 0 = ap length f in let c : length claims ≡ 0 = ap length g in omega arith);
  }

  module _ (at : Part) (number : ℕ) (b : Bool) (pairs : List RowPair) (claims : List Claim) where
    pub read-out : (one : Option Line) (left : Said) → ReadTo wanted text at number b pairs claims (one ∷ left) → after at one ≡ None → form_flaw part.Start 1 text ≡ Some number
    read-out one left h e = h.form ∙ flaw-out at number one left e

    pub read-more : (one : Line) (left : Said) (next : Part) (c : Bool) (more_pairs : List RowPair) (more_claims : List Claim) → ReadTo wanted text at number b pairs claims (Some one ∷ left) → after at (Some one) ≡ Some next
        → c ≡ (b && list_all (same_shape wanted) (shape_in (Some one))) → more_pairs ≡ pairs ++ pair_in (Some one) → more_claims ≡ claims ++ claim_in (Some one)
        → ReadTo wanted text next (number + 1) c more_pairs more_claims left
    read-more one left next c more_pairs more_claims h e i j k = record {
      form = h.form ∙ flaw-next at next number (Some one) left e;
      shaped = h.shaped ∙ ap (λ s. b && s) (shaped_line wanted one left) ∙ and_assoc b _ _ ∙ ap (λ s. s && list_all (same_shape wanted) (shapes_in left)) (sym i);
      pairs_are = h.pairs_are ∙ sym (append_assoc pairs (pair_in (Some one)) (pairs_in left)) ∙ ap (λ (ps : List RowPair). ps ++ pairs_in left) (sym j);
      claims_are = h.claims_are ∙ sym (append_assoc claims (claim_in (Some one)) (claims_in left)) ∙ ap (λ (cs : List Claim). cs ++ claims_in left) (sym k);
      few = (let p : length more_pairs ≡ length pairs + length (pair_in (Some one)) = ap length j ∙ length-both pairs (pair_in (Some one)) in
          let q : length more_claims ≡ length claims + length (claim_in (Some one)) = ap length k ∙ length-both claims (claim_in (Some one)) in
          let l = one_at_most one in let m = h.few in omega arith);
    }

-- ---- giant records
long_row : (row : Row) (o : Option Kind) → 3 < length row → line_where o row ≡ None
long_row row None l = refl
long_row row (Some k) l = ap (λ b. cond b (line_by k (cell row 1) (cell row 2)) None) (ne_eqb (length row) (fields_in k) (other k))
  where
    other : (k : Kind) → length row ≢ fields_in k
    other kind.Cert e = omega arith
    other kind.Pair e = omega arith
    other kind.Key e = omega arith
    other kind.Fd e = omega arith
    other kind.End e = omega arith

no_line : (row : Row) → 3 < length row → line_of row ≡ None
unfolding line_of
no_line row l = long_row row (kind_of (cell row 0)) l

-- a record that is no line ends what is read, whatever follows
record EndsAt (before : Part) (number : ℕ) (earlier : Said) : Type 0 where
  at : ℕ
  is : (left : Said) → form_flaw before number (earlier ++ None ∷ left) ≡ Some at

ends : (before : Part) (number : ℕ) (earlier : Said) → EndsAt before number earlier
ends before number [] = record { at = number; is = λ left. flaw-out before number None left refl }
ends before number (one ∷ others) = by (after before one) refl (λ next. ends next (number + 1) others)
  where
    by : (o : Option Part) → after before one ≡ o → ((next : Part) → EndsAt next (number + 1) others) → EndsAt before number (one ∷ others)
    by None e more = record { at = number; is = λ left. flaw-out before number one (others ++ None ∷ left) e }
    by (Some next) e more = let rest = more next in record { at = rest.at; is = λ left. flaw-next before next number one (others ++ None ∷ left) e ∙ rest.is left }

said_parts : (earlier : List Row) (row : Row) (left : List Row) → 3 < length row → map line_of (earlier ++ row ∷ left) ≡ map line_of earlier ++ None ∷ map line_of left
said_parts earlier row left l = map-append line_of earlier (row ∷ left) ∙ ap (λ (o : Option Line). map line_of earlier ++ o ∷ map line_of left) (no_line row l)

pub giant-same : (bytes upto behind : List ℕ) → IsParted 3 bytes upto behind → (rows : Rows) → answer_by rows (said upto) ≡ answer_by rows (said bytes)
unfolding answer_by
giant-same bytes upto behind is rows =
    let end = ends part.Start 1 (map line_of is.earlier) in
    let many = is.many in
    let some = is.some in
    let one : 3 < length (is.fields ++ is.field ∷ []) = (let e = length-both is.fields (is.field ∷ []) in omega arith) in
    let other : 3 < length (is.fields ++ is.others) = (let e = length-both is.fields is.others in omega arith) in
    let this = ap (form_flaw part.Start 1) (ap (map line_of) is.upto_are ∙ said_parts is.earlier (is.fields ++ is.field ∷ []) [] one) ∙ end.is [] in
    let that = ap (form_flaw part.Start 1) (ap (map line_of) is.records_are ∙ said_parts is.earlier (is.fields ++ is.others) (records_of behind) other) ∙ end.is (map line_of (records_of behind)) in
    ap (λ (o : Option ℕ). no_or flaw.Form o (judged rows (said upto))) this ∙ sym (ap (λ (o : Option ℕ). no_or flaw.Form o (judged rows (said bytes))) that)

-- ---- record by record
module _ (wanted : Shape) (text : Said) (at : Part) (number : ℕ) (b : Bool) (pairs : List RowPair) (claims : List Claim) (rows : List Row) (read : ReadTo wanted text at number b pairs claims (map line_of rows)) where
  module _ (row : Row) (left : List Row) (found : rows ≡ row ∷ left) (o : Option Line) (said_is : o ≡ line_of row) where
    opened : ReadTo wanted text at number b pairs claims (o ∷ map line_of left)
    opened = subst (λ (one : Option Line). ReadTo wanted text at number b pairs claims (one ∷ map line_of left)) (sym said_is)
        (subst (λ (rs : List Row). ReadTo wanted text at number b pairs claims (map line_of rs)) found read)

    pub row-out : o ≡ None → form_flaw part.Start 1 text ≡ Some number
    row-out e = read-out wanted text at number b pairs claims o (map line_of left) opened (ap (after at) e)

    module _ (one : Line) (is : o ≡ Some one) (p : Option Part) (next_is : p ≡ after at (Some one)) where
      pub row-misplaced : p ≡ None → form_flaw part.Start 1 text ≡ Some number
      row-misplaced e = read-out wanted text at number b pairs claims o (map line_of left) opened (ap (after at) is ∙ sym next_is ∙ e)

      pub row-more : (next : Part) (c : Bool) (more_pairs : List RowPair) (more_claims : List Claim) → p ≡ Some next
          → c ≡ (b && list_all (same_shape wanted) (shape_in (Some one))) → more_pairs ≡ pairs ++ pair_in (Some one) → more_claims ≡ claims ++ claim_in (Some one)
          → ReadTo wanted text next (number + 1) c more_pairs more_claims (map line_of left)
      row-more next c more_pairs more_claims e i j k = read-more wanted text at number b pairs claims one (map line_of left) next c more_pairs more_claims
          (subst (λ (one : Option Line). ReadTo wanted text at number b pairs claims (one ∷ map line_of left)) is opened) (sym next_is ∙ e) i j k

  module _ (none : rows ≡ []) where
    pub text-open : eqb (place_of at) 4 ≡ false → form_flaw part.Start 1 text ≡ Some number
    text-open e = read.form ∙ ap (form_flaw at number) (ap (map line_of) none) ∙ flaw-open at number e

    pub text-listed : (listing : Listing) → listing.is_shaped ≡ b → listing.pairs.items ≡ pairs → listing.claims.items ≡ claims → eqb (place_of at) 4 ≡ true → IsListing wanted text listing
    text-listed listing e f g h = record {
      form = read.form ∙ ap (form_flaw at number) (ap (map line_of) none) ∙ flaw-end at number h;
      shaped = e ∙ sym (read.shaped ∙ ap (λ (rest : Said). b && list_all (same_shape wanted) (shapes_in rest)) (ap (map line_of) none) ∙ and_true b);
      pairs = f ∙ sym (read.pairs_are ∙ ap (λ (rest : Said). pairs ++ pairs_in rest) (ap (map line_of) none) ∙ append-nil pairs);
      claims = g ∙ sym (read.claims_are ∙ ap (λ (rest : Said). claims ++ claims_in rest) (ap (map line_of) none) ∙ append-nil claims);
    }
      where
        and_true : (c : Bool) → (c && true) ≡ c
        and_true true = refl
        and_true false = refl
