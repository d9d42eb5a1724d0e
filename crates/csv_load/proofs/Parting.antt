-- A text that is parted at a record that is far too wide.
use Rattle.std.proofs.Common.{◌≡◌, ◌==◌, ◌∙◌, ap, refl, sym, arith, ◌+◌, ◌<◌, ◌≤◌, ℕ, zero, suc, Bool, true, false, cond, List, [], ◌∷◌, ◌++◌, append_assoc, add-one, length, length-append, Option, Some, None, drop, take, get_or, subst, ◌&&◌}
use Rattle.std.proofs.lemmas.Bool.{eqb-true, false≢true}
use Rattle.std.proofs.lemmas.List.{append-nil, drop_more, take_more}
use Rattle.csv.specs.Machine.{Read, next_record, step, is_end, ends_at_end, ends_with, fields_after, field_after}
use Rattle.csv.specs.Reading.{default_config, is_bom, records_from}
use Rattle.csv.specs.declared.parser.State.{State}
use Rattle.csv.specs.declared.parser.State.TheVariants as st
use Rattle.csv.specs.declared.parser.Action.{Action}
use Rattle.csv.specs.declared.parser.Action.TheVariants as act
use Rattle.rel_base.specs.Cells.{Row}
use Rattle.csv_load.specs.Records.{records_of, without_marks}
use Rattle.csv_load.specs.Unread.{records_after}
use Rattle.csv_load.specs.WideRecords.{ends_field}
use Rattle.csv_load.specs.Parting.{EndsBehind, IsParted, IsWideIn, records_then}
use Rattle.csv_load.proofs.Steps.{ends_a_record, takes_first}
use Rattle.csv_load.proofs.WideRecords.{ended_after, ended_read, is_open, open_ends, open_step, records_between}

-- ---- texts that begin with no byte order mark

abbrev pub has_mark : List ℕ → Bool
has_mark [] = false
has_mark (a ∷ []) = false
has_mark (a ∷ b ∷ []) = false
has_mark (a ∷ b ∷ c ∷ rest) = is_bom a b c

pub plain : (xs : List ℕ) → has_mark xs ≡ false → without_marks xs ≡ xs
unfolding without_marks
plain [] e = refl
plain (a ∷ []) e = refl
plain (a ∷ b ∷ []) e = refl
plain (a ∷ b ∷ c ∷ rest) e = ap (λ t. cond t (without_marks rest) (a ∷ b ∷ c ∷ rest)) e

pub no_mark_left : (xs : List ℕ) → has_mark (without_marks xs) ≡ false
unfolding without_marks
no_mark_left [] = refl
no_mark_left (a ∷ []) = refl
no_mark_left (a ∷ b ∷ []) = refl
no_mark_left (a ∷ b ∷ c ∷ rest) = by (is_bom a b c) refl (no_mark_left rest)
  where
    by : (t : Bool) → is_bom a b c ≡ t → has_mark (without_marks rest) ≡ false → has_mark (cond t (without_marks rest) (a ∷ b ∷ c ∷ rest)) ≡ false
    by true e again = again
    by false e again = e

pub no_mark_before : (n : ℕ) (xs : List ℕ) → has_mark xs ≡ false → has_mark (take n xs) ≡ false
no_mark_before zero xs e = refl
no_mark_before (suc n) [] e = refl
no_mark_before (suc zero) (a ∷ xs) e = refl
no_mark_before (suc (suc n)) (a ∷ []) e = refl
no_mark_before (suc (suc zero)) (a ∷ b ∷ xs) e = refl
no_mark_before (suc (suc (suc n))) (a ∷ b ∷ []) e = refl
no_mark_before (suc (suc (suc n))) (a ∷ b ∷ c ∷ xs) e = e

-- the byte that ends a line begins no mark
no_mark_at_end : (b : ℕ) (xs : List ℕ) → ends_with default_config.terminator b ≡ true → has_mark (b ∷ xs) ≡ false
no_mark_at_end b [] e = refl
no_mark_at_end b (c ∷ []) e = refl
no_mark_at_end b (c ∷ d ∷ xs) e = by (b == 239) refl
  where
    by : (t : Bool) → b == 239 ≡ t → (t && (c == 187)) && (d == 191) ≡ false
    by false is = refl
    by true is = absurd (false≢true (ap (λ (n : ℕ). ends_with default_config.terminator n) (sym (eqb-true b 239 is)) ∙ e))

pub records_of_plain : (xs : List ℕ) → has_mark xs ≡ false → records_of xs ≡ records_after st.StartRecord (Some xs)
unfolding records_of
records_of_plain xs e = ap (λ (ys : List ℕ). records_after st.StartRecord (Some ys)) (plain xs e)

-- ---- the records from between two records on

after_none : (xs : List ℕ) → next_record default_config st.StartRecord [] [] xs ≡ None → records_after st.StartRecord (Some xs) ≡ []
unfolding records_from
after_none xs e = rw (add-one, e) refl

pub after_first : (xs : List ℕ) → records_after st.StartRecord (Some xs) ≡ records_then (next_record default_config st.StartRecord [] [] xs)
after_first xs = by (next_record default_config st.StartRecord [] [] xs) refl
  where
    by : (o : Option Read) → next_record default_config st.StartRecord [] [] xs ≡ o → records_after st.StartRecord (Some xs) ≡ records_then o
    by None e = after_none xs e
    by (Some read) e = (takes_first st.StartRecord xs read refl e).left

pub none_behind : records_after st.StartRecord (Some []) ≡ []
unfolding next_record
none_behind = after_none [] refl

-- a byte that goes on with a record
pub goes_on : (s : State) (c : ℕ) (fields : Row) (field rest : List ℕ) → is_end (step default_config s c).1 ≡ false
    → next_record default_config s fields field (c ∷ rest) ≡ next_record default_config (step default_config s c).0 (fields_after (step default_config s c).1 fields field) (field_after (step default_config s c).1 c field) rest
unfolding next_record
goes_on s c fields field rest end =
    ap (λ (b : Bool). cond b (Some (fields_after (step default_config s c).1 fields field, (step default_config s c).0, rest)) (next_record default_config (step default_config s c).0 (fields_after (step default_config s c).1 fields field) (field_after (step default_config s c).1 c field) rest)) end

-- a line's end before a record is skipped
skips_line_end : (c : ℕ) (rest : List ℕ) → ends_with default_config.terminator c ≡ true
    → next_record default_config st.StartRecord [] [] (c ∷ rest) ≡ next_record default_config st.StartRecord [] [] rest
unfolding next_record
skips_line_end c rest e = rw e refl

-- the records behind a byte that ends a record, and from it on
pub from_line_end : (c : ℕ) (rest : List ℕ) → ends_with default_config.terminator c ≡ true → records_after st.StartRecord (Some rest) ≡ records_of (c ∷ rest)
from_line_end c rest e =
    after_first rest ∙ ap records_then (sym (skips_line_end c rest e)) ∙ sym (after_first (c ∷ rest)) ∙ sym (records_of_plain (c ∷ rest) (no_mark_at_end c rest e))

-- ---- up to the place where a record is too wide

-- whatever follows these bytes, reading goes on behind them in this state, with so many fields ended of the record at hand
pub record IsReadIn (start : List ℕ) (s : State) (ended : ℕ) : Type 0 where
  pub earlier : List Row
  pub fields : Row
  pub field : List ℕ
  pub reads : (rest : List ℕ) → records_after st.StartRecord (Some (start ++ rest)) ≡ earlier ++ records_then (next_record default_config s fields field rest)
  pub count : length fields ≡ ended

pub read_none : IsReadIn [] st.StartRecord 0
read_none = record { earlier = []; fields = []; field = []; reads = after_first; count = refl }

pub one_further : (start : List ℕ) (c : ℕ) (rest : List ℕ) → records_after st.StartRecord (Some ((start ++ c ∷ []) ++ rest)) ≡ records_after st.StartRecord (Some (start ++ c ∷ rest))
one_further start c rest = ap (λ (xs : List ℕ). records_after st.StartRecord (Some xs)) (append_assoc start (c ∷ []) rest)

read_more : (start : List ℕ) (s : State) (c ended : ℕ) → IsReadIn start s ended → is_end (step default_config s c).1 ≡ false
    → IsReadIn (start ++ c ∷ []) (step default_config s c).0 (cond (ends_field (step default_config s c).1) (ended + 1) ended)
read_more start s c ended h end = record {
  earlier = h.earlier;
  fields = fields_after (step default_config s c).1 h.fields h.field;
  field = field_after (step default_config s c).1 c h.field;
  reads = λ rest. one_further start c rest ∙ h.reads (c ∷ rest) ∙ ap (λ (o : Option Read). h.earlier ++ records_then o) (goes_on s c h.fields h.field rest end);
  count = ended_after (step default_config s c).1 h.fields h.field end ∙ ap (λ (n : ℕ). cond (ends_field (step default_config s c).1) (n + 1) n) h.count;
}

read_end : (start : List ℕ) (s : State) (c ended : ℕ) → IsReadIn start s ended → is_end (step default_config s c).1 ≡ true → IsReadIn (start ++ c ∷ []) st.StartRecord 0
read_end start s c ended h end =
    let row : Row = fields_after (step default_config s c).1 h.fields h.field in
    record {
      earlier = h.earlier ++ row ∷ [];
      fields = [];
      field = [];
      reads = λ rest. one_further start c rest ∙ h.reads (c ∷ rest)
          ∙ ap (λ (o : Option Read). h.earlier ++ records_then o) (ended_read s c h.fields h.field rest end)
          ∙ ap (λ (rows : List Row). h.earlier ++ row ∷ rows) (records_between (step default_config s c).0 rest (ends_a_record default_config s c end).between ∙ after_first rest)
          ∙ sym (append_assoc h.earlier (row ∷ []) (records_then (next_record default_config st.StartRecord [] [] rest)));
      count = refl;
    }

-- the same of a text's byte at a place
pub read_step : (text : List ℕ) (s t : State) (i ended : ℕ) (ends : Bool) → i < length text → IsReadIn (take i text) s ended
    → is_end (step default_config s (get_or text i 0)).1 ≡ false → (step default_config s (get_or text i 0)).0 ≡ t → ends_field (step default_config s (get_or text i 0)).1 ≡ ends
    → IsReadIn (take (i + 1) text) t (cond ends (ended + 1) ended)
read_step text s t i ended ends there h end next is =
    subst (λ (start : List ℕ). IsReadIn start t (cond ends (ended + 1) ended)) (sym (take_more text i 0 there))
    (subst (λ (u : State). IsReadIn (take i text ++ get_or text i 0 ∷ []) u (cond ends (ended + 1) ended)) next
    (subst (λ (e : Bool). IsReadIn (take i text ++ get_or text i 0 ∷ []) (step default_config s (get_or text i 0)).0 (cond e (ended + 1) ended)) is
    (read_more (take i text) s (get_or text i 0) ended h end)))

pub read_step_end : (text : List ℕ) (s : State) (i ended : ℕ) → i < length text → IsReadIn (take i text) s ended
    → is_end (step default_config s (get_or text i 0)).1 ≡ true → IsReadIn (take (i + 1) text) st.StartRecord 0
read_step_end text s i ended there h end =
    subst (λ (start : List ℕ). IsReadIn start st.StartRecord 0) (sym (take_more text i 0 there)) (read_end (take i text) s (get_or text i 0) ended h end)

pub read_is : (start : List ℕ) (s t : State) (ended fields : ℕ) → IsReadIn start s ended → s ≡ t → ended ≡ fields → IsReadIn start t fields
read_is start s t ended fields h state count = rw (← state, ← count) h

pub read_wide : (start : List ℕ) (s : State) (ended limit : ℕ) → IsReadIn start s ended → s ≡ st.StartField → limit ≤ ended → IsWideIn limit start
read_wide start s ended limit h state l =
    let here = read_is start s st.StartField ended ended h state refl in
    let n = here.count in
    record { earlier = here.earlier; fields = here.fields; field = here.field; reads = here.reads; many = omega (arith, l, n) }

-- ---- to the end of a record

-- a record with these fields is read on, i bytes further, in this state
pub record GoesTo (rest : List ℕ) (i : ℕ) (s : State) (fields : Row) (field : List ℕ) : Type 0 where
  pub more : Row
  pub last : List ℕ
  pub reads : next_record default_config st.StartField fields field rest ≡ next_record default_config s (fields ++ more) last (drop i rest)

-- the same, whichever its fields are
pub record IsInRecord (rest : List ℕ) (i : ℕ) (s : State) : Type 0 where
  pub inside : is_open s ≡ true
  pub goes : (fields : Row) (field : List ℕ) → GoesTo rest i s fields field

pub in_record : (rest : List ℕ) → IsInRecord rest 0 st.StartField
in_record rest = record {
  inside = refl;
  goes = λ fields field. record { more = []; last = field; reads = ap (λ (some : Row). next_record default_config st.StartField some field rest) (sym (append-nil fields)) };
}

-- what an action does to the fields comes after those that were there
fields_more : (a : Action) (fields more : Row) (field : List ℕ) → fields_after a (fields ++ more) field ≡ fields ++ fields_after a more field
fields_more act.EndField fields more field = append_assoc fields more (field ∷ [])
fields_more act.EndRecord fields more field = append_assoc fields more (field ∷ [])
fields_more act.Copy fields more field = refl
fields_more act.Skip fields more field = refl

pub in_record_step : (rest : List ℕ) (s t : State) (i : ℕ) → i < length rest → IsInRecord rest i s
    → is_end (step default_config s (get_or rest i 0)).1 ≡ false → (step default_config s (get_or rest i 0)).0 ≡ t → IsInRecord rest (i + 1) t
in_record_step rest s t i there h end next =
    let c : ℕ = get_or rest i 0 in
    let p : State × Action = step default_config s c in
    record {
      inside = ap is_open (sym next) ∙ open_step s c h.inside end;
      goes = λ fields field.
          let g = h.goes fields field in record {
            more = fields_after p.1 g.more g.last;
            last = field_after p.1 c g.last;
            reads = g.reads ∙ ap (λ (xs : List ℕ). next_record default_config s (fields ++ g.more) g.last xs) (drop_more rest i 0 there)
                ∙ goes_on s c (fields ++ g.more) g.last (drop (i + 1) rest) end
                ∙ ap (λ (some : Row). next_record default_config p.0 some (field_after p.1 c g.last) (drop (i + 1) rest)) (fields_more p.1 fields g.more g.last)
                ∙ ap (λ (u : State). next_record default_config u (fields ++ fields_after p.1 g.more g.last) (field_after p.1 c g.last) (drop (i + 1) rest)) next;
          };
    }

one_at_least : (more : Row) (field : List ℕ) → 0 < length (more ++ field ∷ [])
one_at_least more field = rw length-append (omega arith)

pub ends_here : (rest : List ℕ) (s : State) (i : ℕ) → i < length rest → IsInRecord rest i s → is_end (step default_config s (get_or rest i 0)).1 ≡ true
    → ends_with default_config.terminator (get_or rest i 0) ≡ true → (fields : Row) (field : List ℕ) → EndsBehind rest i fields field
ends_here rest s i there h end line fields field =
    let c : ℕ = get_or rest i 0 in
    let g = h.goes fields field in
    let ended = ends_a_record default_config s c end in
    let is : drop i rest ≡ c ∷ drop (i + 1) rest = drop_more rest i 0 there in
    record {
      others = g.more ++ g.last ∷ [];
      some = one_at_least g.more g.last;
      reads = ap records_then (g.reads ∙ ap (λ (xs : List ℕ). next_record default_config s (fields ++ g.more) g.last xs) is ∙ ended_read s c (fields ++ g.more) g.last (drop (i + 1) rest) end)
          ∙ ap (λ (a : Action). fields_after a (fields ++ g.more) g.last ∷ records_after (step default_config s c).0 (Some (drop (i + 1) rest))) ended.action
          ∙ ap (λ (row : Row). row ∷ records_after (step default_config s c).0 (Some (drop (i + 1) rest))) (append_assoc fields g.more (g.last ∷ []))
          ∙ ap (λ (rows : List Row). (fields ++ (g.more ++ g.last ∷ [])) ∷ rows)
          (records_between (step default_config s c).0 (drop (i + 1) rest) ended.between ∙ from_line_end c (drop (i + 1) rest) line ∙ ap records_of (sym is));
    }

-- the end of the text ends a record
at_end : (s : State) (fields : Row) (field : List ℕ) → ends_at_end s ≡ true → next_record default_config s fields field [] ≡ Some (fields ++ field ∷ [], st.StartRecord, [])
unfolding next_record
at_end s fields field e = rw e refl

nothing_left : records_after st.StartRecord (Some []) ≡ records_of []
nothing_left = sym (records_of_plain [] refl)

pub ends_with_text : (rest : List ℕ) (s : State) (i : ℕ) → drop i rest ≡ [] → IsInRecord rest i s → (fields : Row) (field : List ℕ) → EndsBehind rest i fields field
ends_with_text rest s i is h fields field =
    let g = h.goes fields field in
    record {
      others = g.more ++ g.last ∷ [];
      some = one_at_least g.more g.last;
      reads = ap records_then (g.reads ∙ ap (λ (xs : List ℕ). next_record default_config s (fields ++ g.more) g.last xs) is ∙ at_end s (fields ++ g.more) g.last (open_ends s h.inside))
          ∙ ap (λ (row : Row). row ∷ records_after st.StartRecord (Some [])) (append_assoc fields g.more (g.last ∷ []))
          ∙ ap (λ (rows : List Row). (fields ++ (g.more ++ g.last ∷ [])) ∷ rows) (nothing_left ∙ ap records_of (sym is));
    }

-- ---- the two parts

cut : (n : ℕ) (xs : List ℕ) → take n xs ++ drop n xs ≡ xs
cut zero xs = refl
cut (suc n) [] = refl
cut (suc n) (x ∷ xs) = ap (λ (ys : List ℕ). x ∷ ys) (cut n xs)

pub is_parted : (bytes text : List ℕ) (limit size n : ℕ) → text ≡ without_marks bytes → IsWideIn limit (take size text)
    → ((fields : Row) (field : List ℕ) → EndsBehind (drop size text) n fields field) → IsParted limit bytes (take size text) (drop n (drop size text))
unfolding records_of
is_parted bytes text limit size n is w ends =
    let e = ends w.fields w.field in
    let unmarked : has_mark text ≡ false = ap has_mark is ∙ no_mark_left bytes in
    record {
      earlier = w.earlier;
      fields = w.fields;
      field = w.field;
      others = e.others;
      records_are = ap (λ (xs : List ℕ). records_after st.StartRecord (Some xs)) (sym is ∙ sym (cut size text)) ∙ w.reads (drop size text) ∙ ap (λ (rows : List Row). w.earlier ++ rows) e.reads;
      upto_are = records_of_plain (take size text) (no_mark_before size text unmarked)
          ∙ ap (λ (xs : List ℕ). records_after st.StartRecord (Some xs)) (sym (append-nil (take size text)))
          ∙ w.reads []
          ∙ ap (λ (o : Option Read). w.earlier ++ records_then o) (at_end st.StartField w.fields w.field refl)
          ∙ ap (λ (rows : List Row). w.earlier ++ ((w.fields ++ w.field ∷ []) ∷ rows)) none_behind;
      many = w.many;
      some = e.some;
    }
