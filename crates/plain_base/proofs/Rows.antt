-- Row states that operations leave, and the operations of a batch one by one.
use Rattle.std.proofs.Common.{inl, inr, ◌≡◌, ◌∙◌, ◌+◌, ◌-◌, ◌<◌, ◌≤◌, ℕ, zero, suc, arith, Bool, false, cond, refl, sym, ap, ap₂, subst, List, [], ◌∷◌, ◌++◌, length, get_or, take, drop, map, filter, drop-cons, Result, Ok, Err}
use Rattle.std.specs.List.{All, range_with_len}
use Rattle.std.proofs.lemmas.Bool.{le-ltb}
use Rattle.std.proofs.lemmas.List.{take_more, map-append, get_or_default}
use Rattle.col_set.specs.Lists.{Listed, Listed-filter_parts, Listed-map_which}
use Rattle.col_set.proofs.Places.{Climbs, Listed-get_or}
use Rattle.rel_base.specs.declared.batch.Op.{Op}
use Rattle.rel_base.specs.declared.batch.Op.TheVariants.{Insert, Delete, Update}
use Rattle.rel_base.specs.declared.nulls.Nulls.{Nulls}
use Rattle.rel_base.specs.declared.why.Why.{Why}
use Rattle.rel_base.specs.declared.why.Why.TheVariants.{Rows, Missing}
use Rattle.rel_base.specs.Cells.{Row}
use Rattle.rel_base.specs.Relation.{Content, IsContent}
use Rattle.rel_base.specs.RowState.{RowState, IsRowState, opened, width, next, row}
use Rattle.rel_base.specs.Agreement.{agree}
use Rattle.rel_base.specs.Validity.{agree_sets, pairs, determined, holds}
use Rattle.rel_base.specs.declared.limits.TheConstants.{MOST_ROWS}
use Rattle.rel_base.specs.Covers.{covers, least_covers}
use Rattle.rel_base.specs.Projection.{projected, projection}
use Rattle.rel_base.specs.Batches.{is_live, is_full, inserted, deleted, applied, go_on, after_from}
use Rattle.rel_base.specs.Batches.{IsAsWide}
use Rattle.rel_base.proofs.States.{All-listed, All-from, increasing-Climbs, live_climbs, live_positive, live_numbered}
use Rattle.rel_base.proofs.Valid.{Climbs-filter}
use Rattle.rel_base.proofs.Results.{same_Ok, refused_or, passed_or}
use Rattle.rel_base.proofs.Changes.{applied-follows}
use Rattle.rel_base.proofs.Minima.{covers-least}
use Rattle.col_set.specs.declared.target.Target.{Target}
use Rattle.col_set.specs.ColSet.{Columns}
use Rattle.plain_base.proofs.Pairs.{pairs-map}

-- ---- row states
-- fewer live rows
fewer : (r : RowState) (p : ℕ → Bool) → IsRowState r → IsRowState (record r { live = filter p r.live })
fewer r p is = record {
  some = is.some;
  narrow = is.narrow;
  widths = is.widths;
  short = is.short;
  few = is.few;
  ascending = increasing-Climbs (filter p r.live) (Climbs-filter p r.live (live_climbs r is));
  positive = All-from (λ (number : ℕ). 0 < number) (filter p r.live) (λ number h. live_positive r number is (Listed-filter_parts p number r.live h).0);
  numbered = All-from (λ (number : ℕ). number < next r) (filter p r.live) (λ number h. live_numbered r number is (Listed-filter_parts p number r.live h).0);
}

inserted-state : (r : RowState) (new : Row) → IsRowState r → length new ≡ width r → is_full r ≡ false → IsRowState (inserted r new)
inserted-state r new is wide room = (applied-follows r (inserted r new) (Insert new) is wide (ap (λ b. cond b (Err Rows) (Ok (inserted r new))) room)).0

-- a row with the next number
pub grown-state : (r : RowState) (new : Row) (given : List Row) (live : List ℕ) → IsRowState r → length new ≡ width r → next r ≤ r.limit → given ≡ r.given ++ new ∷ [] → live ≡ r.live ++ next r ∷ []
    → IsRowState (record r { given = given; live = live })
grown-state r new given live is wide room e f =
    subst IsRowState (ap₂ (λ (rows : List Row) (numbers : List ℕ). record r { given = rows; live = numbers }) (sym e) (sym f)) (inserted-state r new is wide (le-ltb r.limit (next r) room))

pub fewer-state : (r : RowState) (p : ℕ → Bool) (live : List ℕ) → IsRowState r → live ≡ filter p r.live → IsRowState (record r { live = live })
fewer-state r p live is e = subst IsRowState (ap (λ (numbers : List ℕ). record r { live = numbers }) (sym e)) (fewer r p is)

-- a relation as it was read
range_within : (n a k : ℕ) → Listed k (range_with_len a n) → (a ≤ k) × (k < a + n)
range_within zero a k h = absurd h
range_within (suc n) a k (inl e) = (omega arith, omega arith)
range_within (suc n) a k (inr h) = let w = range_within n (a + 1) k h in let l = w.0 in let g = w.1 in (omega arith, omega arith)

range_climbs : (n a : ℕ) → Climbs (range_with_len a n)
range_climbs zero a = tt
range_climbs (suc n) a = ((λ y h. let l = (range_within n (a + 1) y h).0 in omega arith), range_climbs n (a + 1))

read-state : (nulls : Nulls) (limit : ℕ) (c : Content) → IsContent c → limit ≤ MOST_ROWS → IsRowState (opened nulls limit c)
read-state nulls limit c is few = record {
  some = is.some;
  narrow = is.narrow;
  widths = is.widths;
  short = is.short;
  few = few;
  ascending = increasing-Climbs (range_with_len 1 (length c.rows)) (range_climbs (length c.rows) 1);
  positive = All-from (λ (number : ℕ). 0 < number) (range_with_len 1 (length c.rows)) (λ number h. let l = (range_within (length c.rows) 1 number h).0 in omega arith);
  numbered = All-from (λ (number : ℕ). number < length c.rows + 1) (range_with_len 1 (length c.rows)) (λ number h. let l = (range_within (length c.rows) 1 number h).1 in omega arith);
}

pub opened-state : (nulls : Nulls) (limit : ℕ) (c : Content) (names : Row) (given : List Row) (live : List ℕ) → IsContent c → limit ≤ MOST_ROWS → names ≡ c.names → given ≡ c.rows → live ≡ range_with_len 1 (length given)
    → IsRowState (record { names = names; nulls = nulls; limit = limit; given = given; live = live })
opened-state nulls limit c names given live is few e f g =
    subst IsRowState (ap₂ (λ (ns : Row) (rows : List Row). opened nulls limit (record { names = ns; rows = rows })) (sym e) (sym f) ∙ ap (λ (numbers : List ℕ). record { names = names; nulls = nulls; limit = limit; given = given; live = numbers }) (sym g))
    (read-state nulls limit c is few)

-- the rows of live numbers are as wide as there are columns
pub rows_wide : (r : RowState) → IsRowState r → All (λ (x : Row). length x ≡ width r) (map (row r) r.live)
rows_wide r is = All-from (λ (x : Row). length x ≡ width r) (map (row r) r.live) (λ x h.
    let w = Listed-map_which (row r) x r.live h in
    let p = live_positive r w.0 is w.1 in
    let l = live_numbered r w.0 is w.1 in
    ap length w.2 ∙ All-listed (λ (y : Row). length y ≡ width r) (row r w.0) r.given is.widths (Listed-get_or r.given (w.0 - 1) [] (omega arith)))

pub rows_more : (r : RowState) (numbers : List ℕ) (i : ℕ) (x : Row) → i < length numbers → get_or numbers i 0 - 1 < length r.given → x ≡ get_or r.given (get_or numbers i 0 - 1) x
    → map (row r) (take i numbers) ++ x ∷ [] ≡ map (row r) (take (i + 1) numbers)
rows_more r numbers i x l given is =
    ap (λ (y : Row). map (row r) (take i numbers) ++ y ∷ []) (is ∙ get_or_default r.given (get_or numbers i 0 - 1) x [] given)
    ∙ sym (ap (map (row r)) (take_more numbers i 0 l) ∙ map-append (row r) (take i numbers) (get_or numbers i 0 ∷ []))

-- ---- operations
pub applied-names : (r s : RowState) (op : Op) → applied r op ≡ Ok s → s.names ≡ r.names
applied-names r s (Insert new) e = ap (λ (t : RowState). t.names) (sym (refused_or (is_full r) Rows (inserted r new) s e).1)
applied-names r s (Delete gone) e = ap (λ (t : RowState). t.names) (sym (same_Ok (passed_or (is_live r gone) Missing (Ok (deleted r gone)) s e).1))
applied-names r s (Update gone new) e = ap (λ (t : RowState). t.names)
    (sym (refused_or (is_full r) Rows (inserted (deleted r gone) new) s (passed_or (is_live r gone) Missing (cond (is_full r) (Err Rows) (Ok (inserted (deleted r gone) new))) s e).1).1)

pub as_wide : (m n : ℕ) (op : Op) → m ≡ n → IsAsWide m op → IsAsWide n op
as_wide m n op e h = subst (λ (k : ℕ). IsAsWide k op) e h

-- ---- a batch
module _ (ops : List Op) (i : ℕ) (r : RowState) (whole : Result RowState (ℕ × Why)) (rest : after_from (i + 1) r (drop i ops) ≡ whole) where
  module _ (op : Op) (l : i < length ops) (is : op ≡ get_or ops i op) where
    goes_on : go_on (applied r op) (i + 1) (λ s. after_from (i + 1 + 1) s (drop (i + 1) ops)) ≡ whole
    goes_on =
        ap (λ (o : Op). go_on (applied r o) (i + 1) (λ s. after_from (i + 1 + 1) s (drop (i + 1) ops))) is
        ∙ sym (ap (after_from (i + 1) r) (drop-cons ops i op l ∙ ap (λ (j : ℕ). get_or ops i op ∷ drop j ops) (let e : suc i ≡ i + 1 = omega arith in e)))
        ∙ rest

    pub after_more : (s : RowState) → applied r op ≡ Ok s → after_from (i + 1 + 1) s (drop (i + 1) ops) ≡ whole
    after_more s e = ap (λ (a : Result RowState Why). go_on a (i + 1) (λ s. after_from (i + 1 + 1) s (drop (i + 1) ops))) (sym e) ∙ goes_on

    pub after_fails : (why : Why) → applied r op ≡ Err why → Err (i + 1, why) ≡ whole
    after_fails why e = ap (λ (a : Result RowState Why). go_on a (i + 1) (λ s. after_from (i + 1 + 1) s (drop (i + 1) ops))) (sym e) ∙ goes_on

  pub after_all : length ops ≤ i → Ok r ≡ whole
  after_all l = ap (after_from (i + 1) r) (sym (none i ops l)) ∙ rest
    where
      none : (i : ℕ) (ops : List Op) → length ops ≤ i → drop i ops ≡ []
      none zero [] l = refl
      none zero (op ∷ ops) l = absurd (omega arith)
      none (suc i) [] l = refl
      none (suc i) (op ∷ ops) l = none i ops (omega arith)

-- ---- what holds among the live rows
pub agree_sets-rows : (r : RowState) (nulls : Nulls) (n : ℕ) (rows : List Row) → nulls ≡ r.nulls → n ≡ width r → rows ≡ map (row r) r.live → map (λ p. agree nulls n p.0 p.1) (pairs rows) ≡ agree_sets r
unfolding agree_sets
agree_sets-rows r nulls n rows d e f =
    ap₂ (λ (m : Nulls) (k : ℕ). map (λ p. agree m k p.0 p.1) (pairs rows)) d e
    ∙ ap (λ (xs : List Row). map (λ p. agree r.nulls (width r) p.0 p.1) (pairs xs)) f
    ∙ pairs-map (row r) (λ p. agree r.nulls (width r) p.0 p.1) r.live

pub holds-sets : (r : RowState) (sets : List Columns) (x : Columns) (t : Target) → sets ≡ agree_sets r → determined sets x t ≡ holds r x t
unfolding holds
holds-sets r sets x t e = ap (λ (ws : List Columns). determined ws x t) e

pub covers-sets : (r : RowState) (n : ℕ) (sets : List Columns) → n ≡ width r → sets ≡ agree_sets r → least_covers n sets ≡ covers r
covers-sets r n sets d e = ap₂ least_covers d e ∙ sym (covers-least r)

pub projection-rows : (r : RowState) (s : Columns) (rows : List Row) → rows ≡ map (row r) r.live → projected s rows ≡ projection r s
unfolding projection
projection-rows r s rows e = ap (projected s) e
