-- Fields of which no byte calls for quotes stand in a line as they are.
use Rattle.std.proofs.Common.{◌≡◌, ℕ, ◌+◌, ◌<◌, ◌^◌, ◌%◌, ◌++◌, true, false, List, [], ◌∷◌, map, codes, refl, sym, ap, ◌∙◌, append_assoc, arith, inl, inr}
use Rattle.std.specs.Prelude.{decimal}
use Rattle.std.specs.List.{flat_map, join_with_byte}
use Rattle.std.proofs.lemmas.Bool.{ne_eqb}
use Rattle.std.proofs.lemmas.List.{append-nil}
use Rattle.std.proofs.lemmas.Fmt.{decimal_by_steps}
use Rattle.std.proofs.lemmas.List.Folds.{list_any-append}
use Rattle.csv.specs.Writing.{needs_byte, needs_quotes, default_writer, field_text, fields_text, is_blank}
use Rattle.col_set.specs.ColSet.{has, columns}
use Rattle.col_set.specs.Lists.{Listed}
use Rattle.col_set.proofs.EachColumn.{columns-listed}
use Rattle.report_text.specs.Field.{columns_text, comma, space}
use Rattle.report_text.specs.Line.{line}
use Rattle.report_text.proofs.ColumnsText.{columns_tail, join-tail}

pub record IsPlain (field : List ℕ) : Type 0 where
  pub no_quotes : needs_quotes default_writer field ≡ false

-- ---- which fields are plain
digit-plain : (n : ℕ) → n < 10 → needs_byte default_writer (48 + n) ≡ false
digit-plain n small =
    let comma : (48 + n ≡ 44) → ⊥ = λ e. omega arith in
    let quote : (48 + n ≡ 34) → ⊥ = λ e. omega arith in
    let carriage : (48 + n ≡ 13) → ⊥ = λ e. omega arith in
    let feed : (48 + n ≡ 10) → ⊥ = λ e. omega arith in
    rw (ne_eqb (48 + n) 44 comma, ne_eqb (48 + n) 34 quote, ne_eqb (48 + n) 13 carriage, ne_eqb (48 + n) 10 feed) refl

decimal-unquoted : (n : ℕ) → n < 2 ^ 64 → needs_quotes default_writer (decimal n) ≡ false
decimal-unquoted = decimal_by_steps (λ n text. needs_quotes default_writer text ≡ false)
    (λ n small. rw (digit-plain n small) refl)
    (λ n text large so_far.
    let small : n % 10 < 10 = omega arith in
    rw (list_any-append (needs_byte default_writer) text ((48 + n % 10) ∷ []), so_far, digit-plain (n % 10) small) refl)

pub IsPlain-decimal : (n : ℕ) → n < 2 ^ 64 → IsPlain (decimal n)
IsPlain-decimal n fits = record { no_quotes = decimal-unquoted n fits }

tail-unquoted : (listed : List ℕ) → ((k : ℕ) → Listed k listed → k < 128) → needs_quotes default_writer (columns_tail listed) ≡ false
tail-unquoted [] below = refl
tail-unquoted (c ∷ listed) below =
    let small : c < 128 = below c (inl refl) in
    rw (list_any-append (needs_byte default_writer) (decimal (c + 1)) (columns_tail listed), decimal-unquoted (c + 1) (omega arith), tail-unquoted listed (λ k l. below k (inr l))) refl

pub IsPlain-columns : (set : ℕ) → ((k : ℕ) → has set k ≡ true → k < 128) → IsPlain (columns_text set)
unfolding columns_text
IsPlain-columns set below = record { no_quotes = of (columns set) (λ k l. below k (columns-listed set k l)) }
  where
    of : (listed : List ℕ) → ((k : ℕ) → Listed k listed → k < 128) → needs_quotes default_writer (join_with_byte space (map (λ column. decimal (column + 1)) listed)) ≡ false
    of [] within = refl
    of (c ∷ listed) within =
        let small : c < 128 = within c (inl refl) in
        rw (join-tail c listed, list_any-append (needs_byte default_writer) (decimal (c + 1)) (columns_tail listed), decimal-unquoted (c + 1) (omega arith), tail-unquoted listed (λ k l. within k (inr l))) refl

-- ---- a line of them
abbrev pub AllPlain : List (List ℕ) → Type 0
AllPlain [] = Unit {0}
AllPlain (field ∷ fields) = IsPlain field × AllPlain fields

abbrev pub after_commas : List (List ℕ) → List ℕ
after_commas fields = flat_map (λ field. comma ∷ field) fields

field_text-plain : (field : List ℕ) → IsPlain field → field_text default_writer field ≡ field
field_text-plain field plain = rw plain.no_quotes refl

fields_text-plain : (fields : List (List ℕ)) → AllPlain fields → fields_text default_writer fields ≡ after_commas fields
unfolding fields_text
fields_text-plain [] plain = refl
fields_text-plain (field ∷ fields) plain = rw (field_text-plain field plain.0, fields_text-plain fields plain.1) refl

-- two fields or more are written with commas between, and a line feed at the end
pub line-plain : (first next : List ℕ) (fields : List (List ℕ)) → IsPlain first → AllPlain (next ∷ fields)
    → line (first ∷ next ∷ fields) ≡ (first ++ after_commas (next ∷ fields)) ++ 10 ∷ []
unfolding line is_blank
line-plain first next fields plain others = rw (field_text-plain first plain, fields_text-plain (next ∷ fields) others) refl

-- ---- the lines of a key and of a dependency
pub key-plain : (columns : List ℕ) → IsPlain columns → line (codes "key" ∷ columns ∷ []) ≡ (codes "key" ++ comma ∷ columns) ++ 10 ∷ []
key-plain columns plain = line-plain (codes "key") columns [] (record { no_quotes = refl }) (plain, tt) ∙ ap (λ t. (codes "key" ++ comma ∷ t) ++ 10 ∷ []) (append-nil columns)

pub fd-plain : (columns number : List ℕ) → IsPlain columns → IsPlain number
    → line (codes "fd" ∷ columns ∷ number ∷ []) ≡ ((codes "fd" ++ comma ∷ columns) ++ comma ∷ number) ++ 10 ∷ []
fd-plain columns number plain digits =
    line-plain (codes "fd") columns (number ∷ []) (record { no_quotes = refl }) (plain, (digits, tt))
    ∙ ap (λ t. (codes "fd" ++ comma ∷ (columns ++ comma ∷ t)) ++ 10 ∷ []) (append-nil number)
    ∙ ap (λ t. t ++ 10 ∷ []) (sym (append_assoc (codes "fd") (comma ∷ columns) (comma ∷ number)))
