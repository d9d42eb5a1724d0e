-- Texts that are cut between two records.
use Rattle.std.proofs.Common.{◌≡◌, ◌==◌, ◌∙◌, ap, refl, sym, ◌+◌, ◌<◌, ◌≤◌, ◌||◌, ℕ, Bool, true, false, cond, List, [], ◌∷◌, ◌++◌, append_assoc, length, Option, Some, drop, take, get_or, subst}
use Rattle.std.specs.List.{list_any}
use Rattle.std.proofs.lemmas.Bool.{false≢true, true≢false}
use Rattle.std.proofs.lemmas.List.{append-nil, take_more, take-append-drop}
use Rattle.csv.specs.Machine.{Read, next_record, in_field, start_field, step, is_end, ends_with, after_end, fields_after, field_after, line_feed}
use Rattle.csv.specs.Reading.{default_config}
use Rattle.csv.specs.declared.parser.State.{State}
use Rattle.csv.specs.declared.parser.State.TheVariants as st
use Rattle.csv.specs.declared.parser.Action.{Action}
use Rattle.csv.specs.declared.parser.Action.TheVariants as act
use Rattle.rel_base.specs.Cells.{Row}
use Rattle.csv_load.specs.declared.wide_records.Place.{Place}
use Rattle.csv_load.specs.declared.wide_records.Place.TheVariants as place
use Rattle.csv_load.specs.Records.{records_of, without_marks}
use Rattle.csv_load.specs.Unread.{records_after}
use Rattle.csv_load.specs.Parting.{records_then}
use Rattle.csv_load.specs.WideRecords.{state_of}
use Rattle.csv_load.specs.Cuts.{IsCut, state_behind}
use Rattle.csv_load.proofs.Steps.{ends_a_record}
use Rattle.csv_load.proofs.WideRecords.{ended_read, is_open, open_step, records_between}
use Rattle.csv_load.proofs.Parting.{after_first, goes_on, has_mark, no_mark_before, no_mark_left, none_behind, one_further, plain, records_of_plain}

-- ---- where reading stands behind some bytes

-- Whatever follows these bytes, reading goes on behind them in this state. Between two records there are no fields.
pub record Stands (start : List ℕ) (s : State) : Type 0 where
  pub earlier : List Row
  pub fields : Row
  pub field : List ℕ
  pub reads : (rest : List ℕ) → records_after st.StartRecord (Some (start ++ rest)) ≡ earlier ++ records_then (next_record default_config s fields field rest)
  pub blank : s ≡ st.StartRecord → (fields ≡ []) × (field ≡ [])

pub stands_none : Stands [] st.StartRecord
stands_none = record { earlier = []; fields = []; field = []; reads = after_first; blank = λ e. (refl, refl) }

-- whether a reader of records has such a state
abbrev pub is_known : State → Bool
is_known st.StartRecord = true
is_known st.AfterCr = false
is_known st.StartField = true
is_known st.InField = true
is_known st.InQuoted = true
is_known st.AfterQuote = true
is_known st.InEscape = false
is_known st.InComment = false

pub known : (p : Place) → is_known (state_of p) ≡ true
known place.BeforeRecord = refl
known place.BeforeField = refl
known place.InField = refl
known place.InQuotes = refl
known place.AfterQuote = refl

-- a byte that leaves the reader before a record, and ends none, was skipped there
record IsSkipped (s : State) (c : ℕ) : Type 0 where
  before : s ≡ st.StartRecord
  skip : (step default_config s c).1 ≡ act.Skip

-- inside a record a byte that does not end it leaves the reader inside
stays_inside : {P : Type 0} → (s : State) (c : ℕ) → is_open s ≡ true → is_end (step default_config s c).1 ≡ false → (step default_config s c).0 ≡ st.StartRecord → P
stays_inside s c inside end e = absurd (false≢true (sym (ap is_open e) ∙ open_step s c inside end))

skipped : (s : State) (c : ℕ) → is_known s ≡ true → is_end (step default_config s c).1 ≡ false → (step default_config s c).0 ≡ st.StartRecord → IsSkipped s c
skipped st.StartRecord c k end e = record { before = refl; skip = by (ends_with default_config.terminator c) end e }
  where
    by : (b : Bool) → is_end (cond b (st.StartRecord, act.Skip) (start_field default_config c)).1 ≡ false
        → (cond b (st.StartRecord, act.Skip) (start_field default_config c)).0 ≡ st.StartRecord → (cond b (st.StartRecord, act.Skip) (start_field default_config c)).1 ≡ act.Skip
    by true end e = refl
    by false end e = stays_inside st.StartField c refl end e
skipped st.AfterCr c k end e = absurd (false≢true k)
skipped st.StartField c k end e = stays_inside st.StartField c refl end e
skipped st.InField c k end e = stays_inside st.InField c refl end e
skipped st.InQuoted c k end e = stays_inside st.InQuoted c refl end e
skipped st.AfterQuote c k end e = stays_inside st.AfterQuote c refl end e
skipped st.InEscape c k end e = absurd (false≢true k)
skipped st.InComment c k end e = absurd (false≢true k)

stands_more : (start : List ℕ) (s : State) (c : ℕ) → is_known s ≡ true → Stands start s → is_end (step default_config s c).1 ≡ false
    → Stands (start ++ c ∷ []) (step default_config s c).0
stands_more start s c k h end = record {
  earlier = h.earlier;
  fields = fields_after (step default_config s c).1 h.fields h.field;
  field = field_after (step default_config s c).1 c h.field;
  reads = λ rest. one_further start c rest ∙ h.reads (c ∷ rest) ∙ ap (λ (o : Option Read). h.earlier ++ records_then o) (goes_on s c h.fields h.field rest end);
  blank = λ e. let was = skipped s c k end e in rw was.skip (h.blank was.before);
}

stands_end : (start : List ℕ) (s : State) (c : ℕ) → Stands start s → is_end (step default_config s c).1 ≡ true → Stands (start ++ c ∷ []) st.StartRecord
stands_end start s c h end =
    let row : Row = fields_after (step default_config s c).1 h.fields h.field in
    record {
      earlier = h.earlier ++ row ∷ [];
      fields = [];
      field = [];
      reads = λ rest. one_further start c rest ∙ h.reads (c ∷ rest)
          ∙ ap (λ (o : Option Read). h.earlier ++ records_then o) (ended_read s c h.fields h.field rest end)
          ∙ ap (λ (rows : List Row). h.earlier ++ row ∷ rows) (records_between (step default_config s c).0 rest (ends_a_record default_config s c end).between ∙ after_first rest)
          ∙ sym (append_assoc h.earlier (row ∷ []) (records_then (next_record default_config st.StartRecord [] [] rest)));
      blank = λ e. (refl, refl);
    }

-- one byte further
stands_on : (start : List ℕ) (s : State) (c : ℕ) → is_known s ≡ true → Stands start s → Stands (start ++ c ∷ []) (state_behind s c)
stands_on start s c k h = by (is_end (step default_config s c).1) refl
  where
    by : (b : Bool) → is_end (step default_config s c).1 ≡ b → Stands (start ++ c ∷ []) (cond b st.StartRecord (step default_config s c).0)
    by true end = stands_end start s c h end
    by false end = stands_more start s c k h end

-- the same of a text's byte at a place
pub stands_step : (text : List ℕ) (p q : Place) (i : ℕ) → i < length text → Stands (take i text) (state_of p)
    → state_of q ≡ state_behind (state_of p) (get_or text i 0) → Stands (take (i + 1) text) (state_of q)
stands_step text p q i there h is =
    subst (λ (s : State). Stands (take (i + 1) text) s) (sym is)
    (subst (λ (start : List ℕ). Stands start (state_behind (state_of p) (get_or text i 0))) (sym (take_more text i 0 there))
    (stands_on (take i text) (state_of p) (get_or text i 0) (known p) h))

-- ---- bytes without a quote

-- whether a reader is in no quotes and behind none
abbrev pub is_plain : State → Bool
is_plain st.StartRecord = true
is_plain st.AfterCr = false
is_plain st.StartField = true
is_plain st.InField = true
is_plain st.InQuoted = false
is_plain st.AfterQuote = false
is_plain st.InEscape = false
is_plain st.InComment = false

-- a byte that does this leaves it so
abbrev LeavesPlain : State × Action → Type 0
LeavesPlain p = is_plain (cond (is_end p.1) st.StartRecord p.0) ≡ true

leaves : (b : Bool) (x y : State × Action) → LeavesPlain x → LeavesPlain y → LeavesPlain (cond b x y)
leaves true x y f g = f
leaves false x y f g = g

plain_in_field : (c : ℕ) → LeavesPlain (in_field default_config c)
plain_in_field c = leaves (c == 44) (st.StartField, act.EndField) _ refl (leaves (ends_with default_config.terminator c) (after_end default_config.terminator c, act.EndRecord) (st.InField, act.Copy) refl refl)

plain_at_start : (c : ℕ) → c == 34 ≡ false → LeavesPlain (start_field default_config c)
plain_at_start c e = ap (λ (b : Bool). is_plain (cond (is_end (cond b (st.InQuoted, act.Skip) (in_field default_config c)).1) st.StartRecord (cond b (st.InQuoted, act.Skip) (in_field default_config c)).0)) e ∙ plain_in_field c

plain_on : (s : State) (c : ℕ) → is_plain s ≡ true → c == 34 ≡ false → is_plain (state_behind s c) ≡ true
plain_on st.StartRecord c p e = leaves (ends_with default_config.terminator c) (st.StartRecord, act.Skip) (start_field default_config c) refl (plain_at_start c e)
plain_on st.AfterCr c p e = absurd (false≢true p)
plain_on st.StartField c p e = plain_at_start c e
plain_on st.InField c p e = plain_in_field c
plain_on st.InQuoted c p e = absurd (false≢true p)
plain_on st.AfterQuote c p e = absurd (false≢true p)
plain_on st.InEscape c p e = absurd (false≢true p)
plain_on st.InComment c p e = absurd (false≢true p)

known_plain : (s : State) → is_plain s ≡ true → is_known s ≡ true
known_plain st.StartRecord p = refl
known_plain st.AfterCr p = p
known_plain st.StartField p = refl
known_plain st.InField p = refl
known_plain st.InQuoted p = refl
known_plain st.AfterQuote p = refl
known_plain st.InEscape p = p
known_plain st.InComment p = p

-- where no quote is open a line feed leaves the reader before a record
behind_line_feed : (s : State) → is_plain s ≡ true → state_behind s line_feed ≡ st.StartRecord
behind_line_feed st.StartRecord p = refl
behind_line_feed st.AfterCr p = absurd (false≢true p)
behind_line_feed st.StartField p = refl
behind_line_feed st.InField p = refl
behind_line_feed st.InQuoted p = absurd (false≢true p)
behind_line_feed st.AfterQuote p = absurd (false≢true p)
behind_line_feed st.InEscape p = absurd (false≢true p)
behind_line_feed st.InComment p = absurd (false≢true p)

-- the bytes of a line, to its end
stands_behind_line : (xs start : List ℕ) (s : State) → is_plain s ≡ true → Stands start s → list_any (λ c. c == 34) (xs ++ line_feed ∷ []) ≡ false
    → Stands (start ++ (xs ++ line_feed ∷ [])) st.StartRecord
stands_behind_line [] start s p h none = subst (λ (t : State). Stands (start ++ line_feed ∷ []) t) (behind_line_feed s p) (stands_on start s line_feed (known_plain s p) h)
stands_behind_line (c ∷ xs) start s p h none = by (c == 34) refl none (stands_behind_line xs (start ++ c ∷ []) (state_behind s c))
  where
    by : (b : Bool) → c == 34 ≡ b → b || list_any (λ c. c == 34) (xs ++ line_feed ∷ []) ≡ false
        → (is_plain (state_behind s c) ≡ true → Stands (start ++ c ∷ []) (state_behind s c) → list_any (λ c. c == 34) (xs ++ line_feed ∷ []) ≡ false
        → Stands ((start ++ c ∷ []) ++ (xs ++ line_feed ∷ [])) st.StartRecord)
        → Stands (start ++ (c ∷ (xs ++ line_feed ∷ []))) st.StartRecord
    by true e none more = absurd (true≢false none)
    by false e none more =
        subst (λ (ys : List ℕ). Stands ys st.StartRecord) (append_assoc start (c ∷ []) (xs ++ line_feed ∷ []))
        (more (plain_on s c p e) (stands_on start s c (known_plain s p) h) none)

-- the same of a text's bytes to a line feed
pub stands_at_line_feed : (text : List ℕ) (i : ℕ) → i < length text → get_or text i 0 ≡ line_feed → list_any (λ c. c == 34) (take (i + 1) text) ≡ false
    → Stands (take (i + 1) text) st.StartRecord
stands_at_line_feed text i there feed none =
    let is : take (i + 1) text ≡ take i text ++ line_feed ∷ [] = take_more text i 0 there ∙ ap (λ (c : ℕ). take i text ++ c ∷ []) feed in
    subst (λ (xs : List ℕ). Stands xs st.StartRecord) (sym is)
    (stands_behind_line (take i text) [] st.StartRecord refl stands_none (sym (ap (list_any (λ c. c == 34)) is) ∙ none))

-- ---- the two parts

-- behind the marks that come first there is no mark
pub unmarked : (bytes text : List ℕ) → text ≡ without_marks bytes → without_marks text ≡ text
unmarked bytes text is = plain text (ap has_mark is ∙ no_mark_left bytes)

-- and there are the same records
pub records_unmarked : (bytes text : List ℕ) → text ≡ without_marks bytes → records_of text ≡ records_of bytes
unfolding records_of
records_unmarked bytes text is = ap (λ (xs : List ℕ). records_after st.StartRecord (Some xs)) (unmarked bytes text is ∙ is)

pub is_cut : (text : List ℕ) (size : ℕ) → size ≤ length text → without_marks text ≡ text → without_marks (drop size text) ≡ drop size text
    → Stands (take size text) st.StartRecord → IsCut text size
is_cut text size within front back h =
    let unmarked : has_mark text ≡ false = sym (ap has_mark front) ∙ no_mark_left text in
    let behind : has_mark (drop size text) ≡ false = sym (ap has_mark back) ∙ no_mark_left (drop size text) in
    let before : has_mark (take size text) ≡ false = no_mark_before size text unmarked in
    let reads : (rest : List ℕ) → records_after st.StartRecord (Some (take size text ++ rest)) ≡ h.earlier ++ records_after st.StartRecord (Some rest) =
    λ rest. h.reads rest
    ∙ ap (λ (fields : Row). h.earlier ++ records_then (next_record default_config st.StartRecord fields h.field rest)) (h.blank refl).0
    ∙ ap (λ (field : List ℕ). h.earlier ++ records_then (next_record default_config st.StartRecord [] field rest)) (h.blank refl).1
    ∙ ap (λ (rows : List Row). h.earlier ++ rows) (sym (after_first rest)) in
    let first : records_of (take size text) ≡ h.earlier =
    records_of_plain (take size text) before
    ∙ ap (λ (xs : List ℕ). records_after st.StartRecord (Some xs)) (sym (append-nil (take size text)))
    ∙ reads []
    ∙ ap (λ (rows : List Row). h.earlier ++ rows) none_behind
    ∙ append-nil h.earlier in
    record {
      within = within;
      records_are = records_of_plain text unmarked
          ∙ ap (λ (xs : List ℕ). records_after st.StartRecord (Some xs)) (sym (take-append-drop size text))
          ∙ reads (drop size text)
          ∙ ap (λ (rows : List Row). h.earlier ++ rows) (sym (records_of_plain (drop size text) behind))
          ∙ ap (λ (rows : List Row). rows ++ records_of (drop size text)) (sym first);
      front = plain (take size text) before;
      back = back;
    }
