-- The records of a text, one after another.
use Rattle.std.proofs.Common.{◌≡◌, ◌==◌, ◌&&◌, ◌∙◌, ap, refl, sym, arith, ◌+◌, ◌<◌, ◌≤◌, ℕ, zero, suc, Bool, true, false, cond, List, [], ◌∷◌, ◌++◌, length, length-append, add-one, Option, Some, None, Bor, inl, inr, ◌⊎◌, ◌||◌, not}
use Rattle.std.specs.Option.{IsSome, is_none}
use Rattle.std.proofs.lemmas.Bool.{false≢true, true≢false}
use Rattle.csv.specs.Machine.{Read, next_record, in_field, start_field, start_record, line_feed, step, is_end, ends_at_end, ends_with, after_end, fields_after, field_after, is_byte}
use Rattle.csv.specs.Reading.{default_config, is_flexible, pending_of, reader_state, records_from, records_next, took_first, NextIs, ReadRecord, ReadsNext, Ready}
use Rattle.csv.specs.declared.parser.Config.{Config}
use Rattle.csv.specs.declared.parser.Terminator.{Terminator}
use Rattle.csv.specs.declared.parser.Terminator.TheVariants as term
use Rattle.csv.specs.declared.parser.State.{State}
use Rattle.csv.specs.declared.parser.State.TheVariants as st
use Rattle.csv.specs.declared.parser.Action.{Action}
use Rattle.csv.specs.declared.parser.Action.TheVariants as act
use Rattle.csv.specs.declared.reader.Reader.{Reader}
use Rattle.csv.specs.declared.reader.Headers.{Headers}
use Rattle.std.specs.List.{All}
use Rattle.std.proofs.lemmas.List.Elements.{All-nil, All-cons}
use Rattle.csv_load.specs.Laws.{RecordsHaveCells}
use Rattle.csv_load.specs.Records.{records_of, without_marks}
use Rattle.csv_load.specs.Unread.{ReadsPlainly, bytes_left, records_after}

-- ---- a byte that ends a record

-- what it does to the fields, and where it leaves the machine: between two records
pub record EndsRecord (p : State × Action) : Type 0 where
  pub action : p.1 ≡ act.EndRecord
  pub between : ends_at_end p.0 ≡ false

between_after : (t : Terminator) (c : ℕ) → ends_at_end (after_end t c) ≡ false
between_after term.CRLF c = by (c == 13)
  where
    by : (b : Bool) → ends_at_end (cond b st.AfterCr st.StartRecord) ≡ false
    by true = refl
    by false = refl
between_after (term.Any t) c = refl

either : (b : Bool) (x y : State × Action) → (is_end x.1 ≡ true → EndsRecord x) → (is_end y.1 ≡ true → EndsRecord y)
    → is_end (cond b x y).1 ≡ true → EndsRecord (cond b x y)
either true x y f g e = f e
either false x y f g e = g e

never : {P : Type 0} → false ≡ true → P
never e = absurd (false≢true e)

ends_in_field : (cfg : Config) (c : ℕ) → is_end (in_field cfg c).1 ≡ true → EndsRecord (in_field cfg c)
ends_in_field cfg c =
    either (c == cfg.delimiter) (st.StartField, act.EndField) _ (λ e. never e)
    (either (ends_with cfg.terminator c) (after_end cfg.terminator c, act.EndRecord) (st.InField, act.Copy) (λ e. record { action = refl; between = between_after cfg.terminator c }) (λ e. never e))

ends_at_start : (cfg : Config) (c : ℕ) → is_end (start_field cfg c).1 ≡ true → EndsRecord (start_field cfg c)
ends_at_start cfg c = either (cfg.quoting && (c == cfg.quote)) (st.InQuoted, act.Skip) (in_field cfg c) (λ e. never e) (ends_in_field cfg c)

ends_at_record : (cfg : Config) (c : ℕ) → is_end (start_record cfg c).1 ≡ true → EndsRecord (start_record cfg c)
ends_at_record cfg c =
    either (ends_with cfg.terminator c) (st.StartRecord, act.Skip) _ (λ e. never e)
    (either (is_byte cfg.comment c) (st.InComment, act.Skip) (start_field cfg c) (λ e. never e) (ends_at_start cfg c))

pub ends_a_record : (cfg : Config) (s : State) (c : ℕ) → is_end (step cfg s c).1 ≡ true → EndsRecord (step cfg s c)
ends_a_record cfg st.StartRecord c = ends_at_record cfg c
ends_a_record cfg st.StartField c = ends_at_start cfg c
ends_a_record cfg st.InField c = ends_in_field cfg c
ends_a_record cfg st.InQuoted c =
    either (cfg.quoting && (c == cfg.quote)) (st.AfterQuote, act.Skip) _ (λ e. never e)
    (either (cfg.quoting && is_byte cfg.escape c) (st.InEscape, act.Skip) (st.InQuoted, act.Copy) (λ e. never e) (λ e. never e))
ends_a_record cfg st.InEscape c = λ e. never e
ends_a_record cfg st.AfterQuote c =
    either (cfg.quoting && cfg.double_quote && (c == cfg.quote)) (st.InQuoted, act.Copy) (in_field cfg c) (λ e. never e) (ends_in_field cfg c)
ends_a_record cfg st.InComment c = either (c == line_feed) (st.StartRecord, act.Skip) (st.InComment, act.Skip) (λ e. never e) (λ e. never e)
ends_a_record cfg st.AfterCr c = either (c == line_feed) (st.StartRecord, act.Skip) (start_record cfg c) (λ e. never e) (ends_at_record cfg c)

-- ---- one record

-- it has a field, and leaves the machine between two records with no more bytes than before
pub record IsRead (p : Read) (bytes : ℕ) : Type 0 where
  pub some : 0 < length p.0
  pub between : ends_at_end p.1 ≡ false
  pub rest : length p.2 ≤ bytes

one_more : (fields : List (List ℕ)) (field : List ℕ) → 0 < length (fields ++ (field ∷ []))
one_more fields field = rw length-append (omega arith)

read_to : (p q : Read) (n : ℕ) → Some p ≡ Some q → IsRead p n → IsRead q n
read_to p q n e h = let same : p ≡ q = cc in rw (← same) h

pub read_is : (cfg : Config) (s : State) (fields : List (List ℕ)) (field xs : List ℕ) (p : Read)
    → next_record cfg s fields field xs ≡ Some p → IsRead p (length xs)
unfolding next_record
read_is cfg s fields field [] p = by (ends_at_end s)
  where
    by : (b : Bool) → cond b (Some (fields ++ (field ∷ []), st.StartRecord, [])) None ≡ Some p → IsRead p 0
    by true e = read_to (fields ++ (field ∷ []), st.StartRecord, []) p 0 e (record { some = one_more fields field; between = refl; rest = omega arith })
    by false e = cc e
read_is cfg s fields field (c ∷ xs) p = by (is_end (step cfg s c).1) refl (read_is cfg (step cfg s c).0 (fields_after (step cfg s c).1 fields field) (field_after (step cfg s c).1 c field) xs p)
  where
    by : (b : Bool) → is_end (step cfg s c).1 ≡ b
        → (next_record cfg (step cfg s c).0 (fields_after (step cfg s c).1 fields field) (field_after (step cfg s c).1 c field) xs ≡ Some p → IsRead p (length xs))
        → cond b (Some (fields_after (step cfg s c).1 fields field, (step cfg s c).0, xs)) (next_record cfg (step cfg s c).0 (fields_after (step cfg s c).1 fields field) (field_after (step cfg s c).1 c field) xs) ≡ Some p
        → IsRead p (length (c ∷ xs))
    by true end more e =
        let ended = ends_a_record cfg s c end in
        read_to (fields_after (step cfg s c).1 fields field, (step cfg s c).0, xs) p (length (c ∷ xs)) e (record {
          some = rw ended.action (one_more fields field);
          between = ended.between;
          rest = omega arith;
        })
    by false end more e = let read = more e in record { some = read.some; between = read.between; rest = omega (arith, read.rest) }

-- from between two records, a record takes at least one byte
pub read_takes : (cfg : Config) (s : State) (fields : List (List ℕ)) (field xs : List ℕ) (p : Read) → ends_at_end s ≡ false
    → next_record cfg s fields field xs ≡ Some p → length p.2 < length xs
unfolding next_record
read_takes cfg s fields field [] p between = λ e. cc (ap (λ b. cond b (Some (fields ++ (field ∷ []), st.StartRecord, [])) None) (sym between) ∙ e)
read_takes cfg s fields field (c ∷ xs) p between = by (is_end (step cfg s c).1)
  where
    by : (b : Bool)
        → cond b (Some (fields_after (step cfg s c).1 fields field, (step cfg s c).0, xs)) (next_record cfg (step cfg s c).0 (fields_after (step cfg s c).1 fields field) (field_after (step cfg s c).1 c field) xs) ≡ Some p
        → length p.2 < length (c ∷ xs)
    by true e = let same : (fields_after (step cfg s c).1 fields field, (step cfg s c).0, xs) ≡ p = cc in rw (← same) (omega arith)
    by false e = let read = read_is cfg (step cfg s c).0 (fields_after (step cfg s c).1 fields field) (field_after (step cfg s c).1 c field) xs p e in omega (arith, read.rest)

-- ---- all records

-- more turns than there are bytes list no further record
pub records_from-turns : (cfg : Config) (n m : ℕ) (s : State) (xs : List ℕ) → length xs < n → length xs < m → ends_at_end s ≡ false
    → records_from cfg n s xs ≡ records_from cfg m s xs
unfolding records_from
records_from-turns cfg zero m s xs h k between = absurd (omega arith)
records_from-turns cfg (suc n) zero s xs h k between = absurd (omega arith)
records_from-turns cfg (suc n) (suc m) s xs h k between = by (next_record cfg s [] [] xs) refl (records_from-turns cfg n m)
  where
    by : (o : Option Read) → next_record cfg s [] [] xs ≡ o
        → ((t : State) (ys : List ℕ) → length ys < n → length ys < m → ends_at_end t ≡ false → records_from cfg n t ys ≡ records_from cfg m t ys)
        → records_next (records_from cfg n) o ≡ records_next (records_from cfg m) o
    by None e more = refl
    by (Some p) e more =
        let taken = read_takes cfg s [] [] xs p between e in
        let read = read_is cfg s [] [] xs p e in
        ap (λ rows. p.0 ∷ rows) (more p.1 p.2 (omega arith) (omega arith) read.between)

-- what a read does to the records that are left
pub record TakesFirst (s s2 : State) (before after : Option (List ℕ)) (fields : List (List ℕ)) : Type 0 where
  pub left : records_after s before ≡ fields ∷ records_after s2 after
  pub known : IsSome after
  pub between : ends_at_end s2 ≡ false
  pub some : 0 < length fields

pub takes_first : (s : State) (xs : List ℕ) (p : Read) → ends_at_end s ≡ false → next_record default_config s [] [] xs ≡ Some p
    → TakesFirst s p.1 (Some xs) (Some p.2) p.0
unfolding records_from
takes_first s xs p between e =
    let taken = read_takes default_config s [] [] xs p between e in
    let read = read_is default_config s [] [] xs p e in record {
      left = rw (add-one, e) (ap (λ rows. p.0 ∷ rows) (records_from-turns default_config (length xs) (length p.2 + 1) p.1 p.2 (omega arith) (omega arith) read.between));
      known = refl;
      between = read.between;
      some = read.some;
    }

pub found_next : (s s2 : State) (before after : Option (List ℕ)) (fields : List (List ℕ)) → IsSome before → ends_at_end s ≡ false
    → ReadsNext default_config s before after true fields s2 → TakesFirst s s2 before after fields
found_next s s2 None after fields known between h = never known
found_next s s2 (Some xs) None fields known between h = absurd h
found_next s s2 (Some xs) (Some ys) fields known between h = by (next_record default_config s [] [] xs) refl h
  where
    by : (o : Option Read) → next_record default_config s [] [] xs ≡ o → NextIs o true fields s2 ys
        → TakesFirst s s2 (Some xs) (Some ys) fields
    by None e h = absurd (true≢false h)
    by (Some p) e (found, same_fields, same_state, same_rest) = rw (same_fields, same_state, same_rest) (takes_first s xs p between e)

pub found_none : (s s2 : State) (before after : Option (List ℕ)) (fields : List (List ℕ)) → IsSome before
    → ReadsNext default_config s before after false fields s2 → records_after s before ≡ []
unfolding records_from
found_none s s2 None after fields known h = refl
found_none s s2 (Some xs) None fields known h = absurd h
found_none s s2 (Some xs) (Some ys) fields known h = by (next_record default_config s [] [] xs) refl h
  where
    by : (o : Option Read) → next_record default_config s [] [] xs ≡ o → NextIs o false fields s2 ys → records_after s (Some xs) ≡ []
    by None e h = rw (add-one, e) refl
    by (Some p) e h = absurd (false≢true h.0)

-- ---- a reader of bytes in memory

pub ready : (a : Reader (Bor (List ℕ))) → ReadsPlainly a → Ready a
ready a plain = by a.first a.has_headers a.headers plain.ready
  where
    by : (first named : Bool) (headers : Option Headers) → first || (not named && is_none headers) ≡ true
        → (first ≡ true) ⊎ ((named ≡ true) × IsSome headers) ⊎ ((named ≡ false) × (headers ≡ None))
    by true named headers e = inl refl
    by false true headers e = absurd (false≢true e)
    by false false None e = inr (inr (refl, refl))
    by false false (Some h) e = absurd (false≢true e)

-- a read of such a reader that found a record
pub record TakesRecord (a b : Reader (Bor (List ℕ))) (fields : List (List ℕ)) : Type 0 where
  pub next : ReadsPlainly b
  pub left : records_after (reader_state a) (bytes_left a) ≡ fields ∷ records_after (reader_state b) (bytes_left b)
  pub some : 0 < length fields

-- after a first read the mark at the start of the text is no more looked for
bytes_left_checked : (b : Reader (Bor (List ℕ))) → b.bom_checked ≡ true → bytes_left b ≡ pending_of (Some b.rdr.now) b
bytes_left_checked b e = rw e refl

pub takes_record : (a b : Reader (Bor (List ℕ))) (fields : List (List ℕ)) → ReadsPlainly a → ReadRecord (λ s. Some s.now) a b true fields
    → took_first b ≡ true → is_flexible b ≡ is_flexible a → TakesRecord a b fields
takes_record a b fields plain (reads, checked, config, trim, _, _) first flexible =
    let pending = bytes_left_checked b checked in
    let taken = found_next a.state b.state (bytes_left a) (bytes_left b) fields plain.known plain.between (rw (pending, ← plain.config) reads) in
    record {
      next = record {
        config = config ∙ plain.config;
        flexible = flexible ∙ plain.flexible;
        trim = trim ∙ plain.trim;
        ready = rw first refl;
        known = taken.known;
        between = taken.between;
      };
      left = taken.left;
      some = taken.some;
    }

pub takes_none : (a b : Reader (Bor (List ℕ))) (fields : List (List ℕ)) → ReadsPlainly a → ReadRecord (λ s. Some s.now) a b false fields
    → records_after (reader_state a) (bytes_left a) ≡ []
takes_none a b fields plain (reads, _, _, _, _, _) =
    found_none a.state b.state (bytes_left a) (pending_of (Some b.rdr.now) b) fields plain.known (rw (← plain.config) reads)

-- ---- each record has a cell

have_cells : (n : ℕ) (s : State) (xs : List ℕ) → All (λ row. 0 < length row) (records_from default_config n s xs)
unfolding records_from
have_cells zero s xs = All-nil (λ row. 0 < length row)
have_cells (suc n) s xs = by (next_record default_config s [] [] xs) refl (have_cells n)
  where
    by : (o : Option Read) → next_record default_config s [] [] xs ≡ o
        → ((t : State) (ys : List ℕ) → All (λ row. 0 < length row) (records_from default_config n t ys))
        → All (λ row. 0 < length row) (records_next (records_from default_config n) o)
    by None e more = All-nil (λ row. 0 < length row)
    by (Some p) e more = All-cons (λ row. 0 < length row) p.0 (records_from default_config n p.1 p.2) (read_is default_config s [] [] xs p e).some (more p.1 p.2)

pub records_have_cells : RecordsHaveCells
unfolding records_of
records_have_cells bytes = have_cells (length (without_marks bytes) + 1) st.StartRecord (without_marks bytes)
