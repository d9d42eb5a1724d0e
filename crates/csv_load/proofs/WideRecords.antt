-- A record of which many fields have ended is too wide.
use Rattle.std.proofs.Common.{◌≡◌, ◌==◌, ◌∙◌, ap, refl, sym, arith, ◌+◌, ◌<◌, ◌≤◌, ℕ, Bool, true, false, cond, List, [], ◌∷◌, ◌++◌, append_assoc, add-one, length, length-append, Some, Option, drop, get_or, subst, ◌||◌}
use Rattle.std.proofs.lemmas.Bool.{false≢true, true≢false}
use Rattle.std.proofs.lemmas.List.{drop_more}
use Rattle.csv.specs.Machine.{Read, next_record, in_field, step, is_end, ends_at_end, ends_with, after_end, fields_after, field_after}
use Rattle.csv.specs.Reading.{default_config, records_from, records_next}
use Rattle.csv.specs.declared.parser.State.{State}
use Rattle.csv.specs.declared.parser.State.TheVariants as st
use Rattle.csv.specs.declared.parser.Action.{Action}
use Rattle.csv.specs.declared.parser.Action.TheVariants as act
use Rattle.rel_base.specs.Cells.{Row}
use Rattle.csv_load.specs.Records.{records_of, without_marks}
use Rattle.csv_load.specs.Unread.{records_after}
use Rattle.csv_load.specs.WideRecords.{IsWideRecord, ends_field}
use Rattle.csv_load.proofs.Steps.{ends_a_record, takes_first}

-- whether a reader is inside a record
abbrev pub is_open : State → Bool
is_open st.StartRecord = false
is_open st.AfterCr = false
is_open st.StartField = true
is_open st.InField = true
is_open st.InQuoted = true
is_open st.AfterQuote = true
is_open st.InEscape = false
is_open st.InComment = false

-- what one byte does inside a record: it ends it, or leaves the reader inside it
abbrev pub StaysOpen : State × Action → Type 0
StaysOpen p = is_end p.1 ≡ false → is_open p.0 ≡ true

stays : (b : Bool) (x y : State × Action) → StaysOpen x → StaysOpen y → StaysOpen (cond b x y)
stays true x y f g = f
stays false x y f g = g

open_in_field : (c : ℕ) → StaysOpen (in_field default_config c)
open_in_field c = stays (c == 44) (st.StartField, act.EndField) _ (λ e. refl) (stays (ends_with default_config.terminator c) (after_end default_config.terminator c, act.EndRecord) (st.InField, act.Copy) (λ e. absurd (true≢false e)) (λ e. refl))

pub open_step : (s : State) (c : ℕ) → is_open s ≡ true → StaysOpen (step default_config s c)
open_step st.StartRecord c e = absurd (false≢true e)
open_step st.AfterCr c e = absurd (false≢true e)
open_step st.StartField c e = stays (c == 34) (st.InQuoted, act.Skip) (in_field default_config c) (λ e. refl) (open_in_field c)
open_step st.InField c e = open_in_field c
open_step st.InQuoted c e = stays (c == 34) (st.AfterQuote, act.Skip) (st.InQuoted, act.Copy) (λ e. refl) (λ e. refl)
open_step st.AfterQuote c e = stays (c == 34) (st.InQuoted, act.Copy) (in_field default_config c) (λ e. refl) (open_in_field c)
open_step st.InEscape c e = absurd (false≢true e)
open_step st.InComment c e = absurd (false≢true e)

pub open_ends : (s : State) → is_open s ≡ true → ends_at_end s ≡ true
open_ends st.StartRecord e = absurd (false≢true e)
open_ends st.AfterCr e = absurd (false≢true e)
open_ends st.StartField e = refl
open_ends st.InField e = refl
open_ends st.InQuoted e = refl
open_ends st.AfterQuote e = refl
open_ends st.InEscape e = absurd (false≢true e)
open_ends st.InComment e = absurd (false≢true e)

no_fewer : (a : Action) (fields : List (List ℕ)) (field : List ℕ) → length fields ≤ length (fields_after a fields field)
no_fewer act.EndField fields field = rw length-append (omega arith)
no_fewer act.EndRecord fields field = rw length-append (omega arith)
no_fewer act.Copy fields field = omega arith
no_fewer act.Skip fields field = omega arith

-- a read that gives a record of more than n fields
record Gives (read : Option Read) (n : ℕ) : Type 0 where
  given : Read
  is : read ≡ Some given
  more : n < length given.0

-- inside a record the field at hand is one more
gives : (s : State) (fields : List (List ℕ)) (field xs : List ℕ) → is_open s ≡ true → Gives (next_record default_config s fields field xs) (length fields)
unfolding next_record
gives s fields field [] inside = rw (open_ends s inside) record {
  given = (fields ++ (field ∷ []), st.StartRecord, []);
  is = refl;
  more = rw length-append (omega arith);
}
gives s fields field (c ∷ xs) inside = by (is_end (step default_config s c).1) refl
    (λ o. gives (step default_config s c).0 (fields_after (step default_config s c).1 fields field) (field_after (step default_config s c).1 c field) xs o)
  where
    by : (b : Bool) → is_end (step default_config s c).1 ≡ b
        → (is_open (step default_config s c).0 ≡ true → Gives (next_record default_config (step default_config s c).0 (fields_after (step default_config s c).1 fields field) (field_after (step default_config s c).1 c field) xs) (length (fields_after (step default_config s c).1 fields field)))
        → Gives (cond b (Some (fields_after (step default_config s c).1 fields field, (step default_config s c).0, xs)) (next_record default_config (step default_config s c).0 (fields_after (step default_config s c).1 fields field) (field_after (step default_config s c).1 c field) xs)) (length fields)
    by true end more = record {
      given = (fields_after (step default_config s c).1 fields field, (step default_config s c).0, xs);
      is = refl;
      more = rw ((ends_a_record default_config s c end).action) (rw length-append (omega arith));
    }
    by false end more =
        let g = more (open_step s c inside end) in
        let n = no_fewer (step default_config s c).1 fields field in
        record { given = g.given; is = g.is; more = let m = g.more in omega (arith, m, n) }

-- the first record of a text is read on from a state, with so many fields ended
pub record IsCounted (text : List ℕ) (s : State) (rest : List ℕ) (ended : ℕ) : Type 0 where
  pub fields : List (List ℕ)
  pub field : List ℕ
  pub read : next_record default_config st.StartRecord [] [] text ≡ next_record default_config s fields field rest
  pub count : length fields ≡ ended

pub counted_none : (text : List ℕ) → IsCounted text st.StartRecord text 0
counted_none text = record { fields = []; field = []; read = refl; count = refl }

pub ended_after : (a : Action) (fields : List (List ℕ)) (field : List ℕ) → is_end a ≡ false → length (fields_after a fields field) ≡ cond (ends_field a) (length fields + 1) (length fields)
ended_after act.EndField fields field e = length-append fields (field ∷ [])
ended_after act.EndRecord fields field e = absurd (true≢false e)
ended_after act.Copy fields field e = refl
ended_after act.Skip fields field e = refl

pub counted_more : (text : List ℕ) (s : State) (c : ℕ) (rest : List ℕ) (ended : ℕ) → IsCounted text s (c ∷ rest) ended → is_end (step default_config s c).1 ≡ false
    → IsCounted text (step default_config s c).0 rest (cond (ends_field (step default_config s c).1) (ended + 1) ended)
unfolding next_record
counted_more text s c rest ended h end = record {
  fields = fields_after (step default_config s c).1 h.fields h.field;
  field = field_after (step default_config s c).1 c h.field;
  read = h.read ∙ ap (λ (b : Bool). cond b (Some (fields_after (step default_config s c).1 h.fields h.field, (step default_config s c).0, rest)) (next_record default_config (step default_config s c).0 (fields_after (step default_config s c).1 h.fields h.field) (field_after (step default_config s c).1 c h.field) rest)) end;
  count = ended_after (step default_config s c).1 h.fields h.field end ∙ ap (λ (n : ℕ). cond (ends_field (step default_config s c).1) (n + 1) n) h.count;
}

-- a byte of a longer text further
counted_step : (text all : List ℕ) (s t : State) (i ended b : ℕ) (ends : Bool) → i < length all → b ≡ get_or all i 0 → IsCounted text s (drop i all) ended
    → is_end (step default_config s b).1 ≡ false → (step default_config s b).0 ≡ t → ends_field (step default_config s b).1 ≡ ends
    → IsCounted text t (drop (i + 1) all) (cond ends (ended + 1) ended)
counted_step text all s t i ended b ends l at h end next is =
    let here : IsCounted text s (b ∷ drop (i + 1) all) ended = subst (λ (xs : List ℕ). IsCounted text s xs ended) (drop_more all i 0 l ∙ ap (λ (c : ℕ). c ∷ drop (i + 1) all) (sym at)) h in
    let more = counted_more text s b (drop (i + 1) all) ended here end in
    subst (λ (u : State). IsCounted text u (drop (i + 1) all) (cond ends (ended + 1) ended)) next
    (subst (λ (e : Bool). IsCounted text (step default_config s b).0 (drop (i + 1) all) (cond e (ended + 1) ended)) is more)

-- the first record of a text, of which so many fields have ended, has more
record StartsWide (limit : ℕ) (text : List ℕ) : Type 0 where
  row : Row
  later : List Row
  records_are : records_after st.StartRecord (Some text) ≡ row ∷ later
  wide : limit < length row

starts_wide : (text rest : List ℕ) (ended limit : ℕ) → IsCounted text st.StartField rest ended → limit ≤ ended → StartsWide limit text
starts_wide text rest ended limit h l =
    let g = gives st.StartField h.fields h.field rest refl in
    let m = g.more in
    let n = h.count in record {
      row = g.given.0;
      later = records_after g.given.1 (Some g.given.2);
      records_are = (takes_first st.StartRecord text g.given refl (h.read ∙ g.is)).left;
      wide = omega (arith, l, m, n);
    }

-- the records of a text are so many, and then those of what is left of it, of which the first one is counted
pub record IsScanned (text : List ℕ) (s : State) (rest : List ℕ) (whole ended : ℕ) : Type 0 where
  pub earlier : List Row
  pub left : List ℕ
  pub records_are : records_after st.StartRecord (Some text) ≡ earlier ++ records_after st.StartRecord (Some left)
  pub number : length earlier ≡ whole
  pub counted : IsCounted left s rest ended

pub scanned_none : (text : List ℕ) → IsScanned text st.StartRecord text 0 0
scanned_none text = record { earlier = []; left = text; records_are = refl; number = refl; counted = counted_none text }

-- a byte further in a record
pub scanned_step : (text : List ℕ) (s t : State) (i whole ended b : ℕ) (ends : Bool) → i < length text → b ≡ get_or text i 0
    → IsScanned text s (drop i text) whole ended
    → is_end (step default_config s b).1 ≡ false → (step default_config s b).0 ≡ t → ends_field (step default_config s b).1 ≡ ends
    → IsScanned text t (drop (i + 1) text) whole (cond ends (ended + 1) ended)
scanned_step text s t i whole ended b ends l at h end next is = record {
  earlier = h.earlier;
  left = h.left;
  records_are = h.records_are;
  number = h.number;
  counted = counted_step h.left text s t i ended b ends l at h.counted end next is;
}

-- the same, where many of its fields have ended
pub scanned_wide : (bytes rest : List ℕ) (whole ended limit : ℕ) → IsScanned (without_marks bytes) st.StartField rest whole ended → limit ≤ ended
    → IsWideRecord limit (records_of bytes) (whole + 1)
unfolding records_of
scanned_wide bytes rest whole ended limit h l =
    let w = starts_wide h.left rest ended limit h.counted l in record {
      earlier = h.earlier;
      row = w.row;
      later = w.later;
      records_are = h.records_are ∙ ap (λ (rows : List Row). h.earlier ++ rows) w.records_are;
      number = ap (λ (n : ℕ). n + 1) (sym h.number);
      wide = w.wide;
    }

-- ---- the end of a record

-- a machine between two records reads on as at the start
after_return : (r f : Bool) (x y : State × Action) → cond f x (cond (r || f) x y) ≡ cond (r || f) x y
after_return true true x y = refl
after_return false true x y = refl
after_return r false x y = refl

step_between : (s : State) (c : ℕ) → ends_at_end s ≡ false → step default_config s c ≡ step default_config st.StartRecord c
step_between st.StartRecord c e = refl
step_between st.AfterCr c e = after_return (c == 13) (c == 10) (st.StartRecord, act.Skip) _
step_between st.StartField c e = absurd (true≢false e)
step_between st.InField c e = absurd (true≢false e)
step_between st.InQuoted c e = absurd (true≢false e)
step_between st.AfterQuote c e = absurd (true≢false e)
step_between st.InEscape c e = absurd (true≢false e)
step_between st.InComment c e = absurd (true≢false e)

next_between : (s : State) (fields : Row) (field xs : List ℕ) → ends_at_end s ≡ false
    → next_record default_config s fields field xs ≡ next_record default_config st.StartRecord fields field xs
unfolding next_record
next_between s fields field [] between = rw between refl
next_between s fields field (c ∷ xs) between =
    ap (λ (p : State × Action). cond (is_end p.1) (Some (fields_after p.1 fields field, p.0, xs)) (next_record default_config p.0 (fields_after p.1 fields field) (field_after p.1 c field) xs))
    (step_between s c between)

pub records_between : (s : State) (xs : List ℕ) → ends_at_end s ≡ false → records_after s (Some xs) ≡ records_after st.StartRecord (Some xs)
unfolding records_from
records_between s xs between = rw add-one (ap (records_next (records_from default_config (length xs))) (next_between s [] [] xs between))

-- what is read where a byte ends a record
pub ended_read : (s : State) (c : ℕ) (fields : Row) (field rest : List ℕ) → is_end (step default_config s c).1 ≡ true
    → next_record default_config s fields field (c ∷ rest) ≡ Some (fields_after (step default_config s c).1 fields field, (step default_config s c).0, rest)
unfolding next_record
ended_read s c fields field rest end = rw end refl

pub scanned_end : (text : List ℕ) (s : State) (i whole ended b : ℕ) → i < length text → b ≡ get_or text i 0
    → IsScanned text s (drop i text) whole ended → is_end (step default_config s b).1 ≡ true
    → IsScanned text st.StartRecord (drop (i + 1) text) (whole + 1) 0
scanned_end text s i whole ended b l at h end =
    let here : IsCounted h.left s (b ∷ drop (i + 1) text) ended = subst (λ (xs : List ℕ). IsCounted h.left s xs ended) (drop_more text i 0 l ∙ ap (λ (c : ℕ). c ∷ drop (i + 1) text) (sym at)) h.counted in
    let row : Row = fields_after (step default_config s b).1 here.fields here.field in
    let first = takes_first st.StartRecord h.left (row, (step default_config s b).0, drop (i + 1) text) refl (here.read ∙ ended_read s b here.fields here.field (drop (i + 1) text) end) in
    let others = records_between (step default_config s b).0 (drop (i + 1) text) (ends_a_record default_config s b end).between in
    record {
      earlier = h.earlier ++ (row ∷ []);
      left = drop (i + 1) text;
      records_are = h.records_are ∙ ap (λ (rows : List Row). h.earlier ++ rows) (first.left ∙ ap (λ (rows : List Row). row ∷ rows) others)
          ∙ sym (append_assoc h.earlier (row ∷ []) (records_after st.StartRecord (Some (drop (i + 1) text))));
      number = length-append h.earlier (row ∷ []) ∙ ap (λ (n : ℕ). n + 1) h.number;
      counted = counted_none (drop (i + 1) text);
    }

pub scanned_is : (text rest : List ℕ) (s t : State) (whole number ended fields : ℕ) → IsScanned text s rest whole ended → s ≡ t → whole ≡ number → ended ≡ fields
    → IsScanned text t rest number fields
scanned_is text rest s t whole number ended fields h state same count = rw (← state, ← same, ← count) h
