-- Files read one after another.
use Rattle.std.proofs.Common.{◌≡◌, ℕ, zero, suc, ◌+◌, ◌<◌, ◌≤◌, Bool, cond, refl, sym, ap, ap₂, ◌∙◌, List, [], ◌∷◌, ◌++◌, length, get_or, take, append-nil, Option, Some, None}
use Rattle.std.proofs.lemmas.Bool.{le-ltb, lt-ltb}
use Rattle.std.specs.List.{flat_map}
use Rattle.std.proofs.lemmas.List.{length-append, take_more}
use Rattle.std.proofs.lemmas.List.Concat.{flat_map-append}
use Rattle.rel_base.specs.declared.limits.Limits.{Limits}
use Rattle.rel_base.specs.declared.why.Why.{Why}
use Rattle.rel_base.specs.declared.why.Why.TheVariants.{Bytes}
use Rattle.rel_base.specs.Relation.{Content}
use Rattle.ports.specs.Files.{Files, bytes_of}
use Rattle.csv_load.specs.Records.{records_of}
use Rattle.csv_load.specs.Refusal.{refused_records, refused_file}
use Rattle.profile_cli.specs.Contents.{file_content, first_refusal, named, or_else, refused_as}
use Rattle.profile_cli.specs.FilesRead.{kind_of, relation_in, text_in}
use Rattle.profile_cli.specs.declared.reading.Held.{Held}
use Rattle.profile_cli.specs.declared.reading.Held.TheVariants as held
use Rattle.task_base.specs.Reading.{Reading, if_relation, if_text, no_reading}
use Rattle.task_base.specs.Task.{content_of}
use Rattle.task_base.specs.declared.reads.ReadAs.{ReadAs}
use Rattle.task_base.specs.declared.reads.ReadAs.TheVariants.{Relation, Text}

-- ---- one file
accepted : (limits : Limits) (bytes : List ℕ) → length bytes ≤ limits.bytes → refused_file limits bytes ≡ refused_records limits (records_of bytes)
unfolding refused_file
accepted limits bytes h = ap (λ (b : Bool). cond b (Some (0, Bytes)) (refused_records limits (records_of bytes))) (le-ltb limits.bytes (length bytes) h)

pub read_is : (limits : Limits) (bytes items : List ℕ) (relation : Content) → items ≡ bytes → length bytes ≤ limits.bytes
    → refused_records limits (records_of items) ≡ None → records_of items ≡ relation.names ∷ relation.rows
    → (refused_file limits bytes ≡ None) × (relation ≡ file_content bytes)
read_is limits bytes items relation same h none is = (
  accepted limits bytes h ∙ ap (λ bs. refused_records limits (records_of bs)) (sym same) ∙ none,
  sym (ap content_of (ap records_of (sym same) ∙ is)),
)

pub refused_is : (limits : Limits) (bytes items : List ℕ) (rec : ℕ) (why : Why) → items ≡ bytes → length bytes ≤ limits.bytes
    → refused_records limits (records_of items) ≡ Some (rec, why) → refused_file limits bytes ≡ Some (rec, why)
refused_is limits bytes items rec why same h some = accepted limits bytes h ∙ ap (λ bs. refused_records limits (records_of bs)) (sym same) ∙ some

pub too_long_is : (limits : Limits) (bytes : List ℕ) → limits.bytes < length bytes → refused_file limits bytes ≡ Some (0, Bytes)
unfolding refused_file
too_long_is limits bytes h = ap (λ (b : Bool). cond b (Some (0, Bytes)) (refused_records limits (records_of bytes))) (lt-ltb limits.bytes (length bytes) h)

-- ---- one file that is read as a text
pub text_is : (limits : Limits) (bytes : List ℕ) → length bytes ≤ limits.bytes → refused_as Text limits bytes ≡ None
text_is limits bytes h = ap (λ (b : Bool). cond b (Some (0, Bytes)) None) (le-ltb limits.bytes (length bytes) h)

-- one that is too long, however it is read
pub long_is : (read_as : ReadAs) (limits : Limits) (bytes : List ℕ) → limits.bytes < length bytes → refused_as read_as limits bytes ≡ Some (0, Bytes)
long_is Relation limits bytes h = too_long_is limits bytes h
long_is Text limits bytes h = ap (λ (b : Bool). cond b (Some (0, Bytes)) None) (lt-ltb limits.bytes (length bytes) h)

-- ---- several files
or_else-assoc : (a b c : Option (List ℕ × ℕ × Why)) → or_else a (or_else b c) ≡ or_else (or_else a b) c
or_else-assoc None b c = refl
or_else-assoc (Some x) b c = refl

or_else-none : (a : Option (List ℕ × ℕ × Why)) → or_else a None ≡ a
or_else-none None = refl
or_else-none (Some x) = refl

-- the refusal of a file, with its name
at : Limits → Files → Reading → Option (List ℕ × ℕ × Why)
at limits on r = named r.0 (refused_as r.1 limits (bytes_of on r.0))

first_refusal-append : (limits : Limits) (on : Files) (xs ys : List Reading) → first_refusal limits on (xs ++ ys) ≡ or_else (first_refusal limits on xs) (first_refusal limits on ys)
unfolding first_refusal at
first_refusal-append limits on [] ys = refl
first_refusal-append limits on (x ∷ xs) ys =
    ap (or_else (at limits on x)) (first_refusal-append limits on xs ys) ∙ or_else-assoc (at limits on x) (first_refusal limits on xs) (first_refusal limits on ys)

first_refusal-one : (limits : Limits) (on : Files) (x : Reading) → first_refusal limits on (x ∷ []) ≡ at limits on x
unfolding first_refusal at
first_refusal-one limits on x = or_else-none (at limits on x)

pub first_refusal-none : (limits : Limits) (on : Files) → first_refusal limits on [] ≡ None
unfolding first_refusal
first_refusal-none limits on = refl

first_refusal-more : (limits : Limits) (on : Files) (reads : List Reading) (i : ℕ) → i < length reads → first_refusal limits on (take i reads) ≡ None
    → first_refusal limits on (take (i + 1) reads) ≡ at limits on (get_or reads i no_reading)
first_refusal-more limits on reads i h none =
    ap (first_refusal limits on) (take_more reads i no_reading h) ∙ first_refusal-append limits on (take i reads) (get_or reads i no_reading ∷ [])
    ∙ ap₂ or_else none (first_refusal-one limits on (get_or reads i no_reading))

take_drop : (i : ℕ) (xs : List Reading) → (ys : List Reading) × (xs ≡ take i xs ++ ys)
take_drop zero xs = (xs, refl)
take_drop (suc i) [] = ([], refl)
take_drop (suc i) (x ∷ xs) = let w = take_drop i xs in (w.0, ap (λ ys. x ∷ ys) w.1)

-- the file at a place is refused, and none before it
pub first_refusal-hit : (limits : Limits) (on : Files) (reads : List Reading) (i rec : ℕ) (why : Why) → i < length reads → first_refusal limits on (take i reads) ≡ None
    → refused_as (get_or reads i no_reading).1 limits (bytes_of on (get_or reads i no_reading).0) ≡ Some (rec, why) → first_refusal limits on reads ≡ Some ((get_or reads i no_reading).0, rec, why)
unfolding at
first_refusal-hit limits on reads i rec why h none e =
    let w = take_drop (i + 1) reads in
    ap (first_refusal limits on) w.1 ∙ first_refusal-append limits on (take (i + 1) reads) w.0
    ∙ ap (λ r. or_else r (first_refusal limits on w.0)) (first_refusal-more limits on reads i h none ∙ ap (named (get_or reads i no_reading).0) e)

-- it isn't refused either
pub first_refusal-pass : (limits : Limits) (on : Files) (reads : List Reading) (i : ℕ) → i < length reads → first_refusal limits on (take i reads) ≡ None
    → refused_as (get_or reads i no_reading).1 limits (bytes_of on (get_or reads i no_reading).0) ≡ None → first_refusal limits on (take (i + 1) reads) ≡ None
unfolding at
first_refusal-pass limits on reads i h none e = first_refusal-more limits on reads i h none ∙ ap (named (get_or reads i no_reading).0) e

-- one element more of what is made of each file
pub one_more : {X : Type 0} (f : Reading → List X) (reads : List Reading) (i : ℕ) (old new part : List X) → i < length reads → new ≡ old ++ part → part ≡ f (get_or reads i no_reading)
    → old ≡ flat_map f (take i reads) → new ≡ flat_map f (take (i + 1) reads)
one_more {X} f reads i old new part h made is so_far =
    made ∙ ap₂ (λ (xs ys : List X). xs ++ ys) so_far (is ∙ sym (append-nil (f (get_or reads i no_reading))))
    ∙ sym (ap (flat_map f) (take_more reads i no_reading h) ∙ flat_map-append f (take i reads) (get_or reads i no_reading ∷ []))

-- one more of so many
pub count_more : {X Y : Type 0} (f : Reading → List Y) (reads : List Reading) (i : ℕ) (old new part : List X) → i < length reads → new ≡ old ++ part → length part ≡ length (f (get_or reads i no_reading))
    → length old ≡ length (flat_map f (take i reads)) → length new ≡ length (flat_map f (take (i + 1) reads))
count_more {X} {Y} f reads i old new part h made is so_far =
    ap length made ∙ length-append old part ∙ ap₂ (λ (m n : ℕ). m + n) so_far is ∙ sym (length-append (flat_map f (take i reads)) (f (get_or reads i no_reading)))
    ∙ ap length (ap (λ (ys : List Y). flat_map f (take i reads) ++ ys) (sym (append-nil (f (get_or reads i no_reading))))
    ∙ sym (ap (flat_map f) (take_more reads i no_reading h) ∙ flat_map-append f (take i reads) (get_or reads i no_reading ∷ [])))

-- there is a relation where the file was read as one, and a text where it was read as that
pub relation_count : {Y : Type 0} (found : Held) (read_as : ReadAs) (y : Y) → kind_of found ≡ read_as → length (relation_in found) ≡ length (if_relation read_as y)
relation_count (held.Relation relation) read_as y e = ap (λ (k : ReadAs). length (if_relation k y)) e
relation_count (held.Text text) read_as y e = ap (λ (k : ReadAs). length (if_relation k y)) e

pub text_count : {Y : Type 0} (found : Held) (read_as : ReadAs) (y : Y) → kind_of found ≡ read_as → length (text_in found) ≡ length (if_text read_as y)
text_count (held.Relation relation) read_as y e = ap (λ (k : ReadAs). length (if_text k y)) e
text_count (held.Text text) read_as y e = ap (λ (k : ReadAs). length (if_text k y)) e
