-- The lines of a certificate are read back from its text.
use Rattle.std.proofs.Common.{inl, inr, ◌≡◌, ℕ, zero, suc, ◌+◌, ◌-◌, ◌<◌, ◌≤◌, ◌^◌, cond, refl, sym, ap, ap₂, ◌∙◌, arith, List, [], ◌∷◌, ◌++◌, length, map, append_assoc, append-nil, Option, Some, codes}
use Rattle.std.specs.Prelude.{decimal, option_map}
use Rattle.std.specs.List.{flat_map}
use Rattle.std.proofs.lemmas.List.{length-append}
use Rattle.csv.specs.Machine.{next_record}
use Rattle.csv.specs.Reading.{default_config, records, records_from}
use Rattle.csv.specs.Writing.{default_writer, fields_text, is_blank, read_back, row_body, row_text}
use Rattle.csv.specs.declared.parser.State.TheVariants as st
use Rattle.csv.proofs.RoundTrip.{read-write, rows_text}
use Rattle.col_set.specs.ColSet.{Columns}
use Rattle.col_set.specs.Lists.{Listed}
use Rattle.rel_base.specs.Cells.{Row}
use Rattle.rel_base.specs.Covers.{CoverLists}
use Rattle.rel_base.specs.declared.dependency.Fd.{Fd}
use Rattle.csv_load.specs.Records.{records_of, without_marks}
use Rattle.report_text.specs.Certificate.{certificate_text, cert_line, pair_line, end_line}
use Rattle.report_text.specs.Field.{columns_text}
use Rattle.report_text.specs.Line.{line}
use Rattle.report_text.specs.Report.{key_line, fd_line}
use Rattle.cover_cert.specs.declared.line.Line.{Line}
use Rattle.cover_cert.specs.declared.line.Line.TheVariants as the
use Rattle.cover_cert.specs.declared.line.RowPair.{RowPair}
use Rattle.cover_cert.specs.Form.{Said, said}
use Rattle.cover_cert.specs.Laws.{lines_of}
use Rattle.cover_cert.specs.Lines.{kind_of, line_of, of_both}
use Rattle.cover_cert.proofs.Numbers.{number-decimal, column_of-decimal, columns_of-text}

-- ---- records
abbrev cert_row : ℕ → ℕ → Row
cert_row columns rows = codes "cert" ∷ decimal columns ∷ decimal rows ∷ []

abbrev pair_row : ℕ × ℕ → Row
pair_row pair = codes "pair" ∷ decimal pair.0 ∷ decimal pair.1 ∷ []

abbrev key_row : Columns → Row
key_row key = codes "key" ∷ columns_text key ∷ []

abbrev fd_row : Fd → Row
fd_row fd = codes "fd" ∷ columns_text fd.left ∷ decimal (fd.right + 1) ∷ []

abbrev end_row : Row
end_row = codes "end" ∷ []

abbrev from_fds : List Fd → List Row
from_fds fds = map fd_row fds ++ (end_row ∷ [])

abbrev from_keys : CoverLists → List Row
from_keys found = map key_row found.keys ++ from_fds found.fds

abbrev from_pairs : List (ℕ × ℕ) → CoverLists → List Row
from_pairs pairs found = map pair_row pairs ++ from_keys found

abbrev all_rows : ℕ → ℕ → List (ℕ × ℕ) → CoverLists → List Row
all_rows columns rows pairs found = cert_row columns rows ∷ from_pairs pairs found

rows-lines : {A : Type 0} (f : A → Row) (xs : List A) (rest : List Row) → flat_map (λ x. line (f x)) xs ++ rows_text rest ≡ rows_text (map f xs ++ rest)
unfolding line rows_text
rows-lines f [] rest = refl
rows-lines f (x ∷ xs) rest =
    append_assoc (line (f x)) (flat_map (λ x. line (f x)) xs) (rows_text rest) ∙ ap (λ (t : List ℕ). line (f x) ++ t) (rows-lines f xs rest)

grouped : (a b c d e : List ℕ) → a ++ b ++ c ++ d ++ e ≡ a ++ (b ++ (c ++ (d ++ e)))
grouped a b c d e = append_assoc (a ++ b ++ c) d e ∙ append_assoc (a ++ b) c (d ++ e) ∙ append_assoc a b (c ++ (d ++ e))

text-rows : (columns rows : ℕ) (pairs : List (ℕ × ℕ)) (found : CoverLists) → certificate_text columns rows pairs found ≡ rows_text (all_rows columns rows pairs found)
unfolding certificate_text line rows_text
text-rows columns rows pairs found =
    let last : end_line ≡ rows_text (end_row ∷ []) = sym (append-nil end_line) in
    grouped (cert_line columns rows) (flat_map pair_line pairs) (flat_map key_line found.keys) (flat_map fd_line found.fds) end_line
    ∙ ap (λ (t : List ℕ). cert_line columns rows ++ t)
    (ap (λ (t : List ℕ). flat_map pair_line pairs ++ t)
    (ap (λ (t : List ℕ). flat_map key_line found.keys ++ t)
    (ap (λ (t : List ℕ). flat_map fd_line found.fds ++ t) last ∙ rows-lines fd_row found.fds (end_row ∷ []))
    ∙ rows-lines key_row found.keys (from_fds found.fds))
    ∙ rows-lines pair_row pairs (from_keys found))

-- ---- what is read
nothing-left : (k : ℕ) → records_from default_config k st.StartRecord [] ≡ []
unfolding records_from next_record
nothing-left zero = refl
nothing-left (suc k) = refl

records-rows : (rows : List Row) (k : ℕ) → records_from default_config (length rows + k) st.StartRecord (rows_text rows) ≡ map read_back rows
unfolding records_from rows_text
records-rows [] k = let none : 0 + k ≡ k = omega arith in ap (λ (n : ℕ). records_from default_config n st.StartRecord []) none ∙ nothing-left k
records-rows (row ∷ rows) k =
    let one : length (row ∷ rows) + k ≡ suc (length rows + k) = omega arith in
    ap (λ (n : ℕ). records_from default_config n st.StartRecord (rows_text (row ∷ rows))) one
    ∙ rw (read-write row (rows_text rows)) (ap (λ (t : List Row). read_back row ∷ t) (records-rows rows k))

some-text : (row : Row) → 0 < length (row_text default_writer row)
some-text row =
    let blank : List ℕ = cond (is_blank default_writer row) (34 ∷ 34 ∷ []) [] in
    omega (arith, length-append (row_body default_writer row) (blank ++ (10 ∷ [])), length-append blank (10 ∷ []))

rows-few : (rows : List Row) → length rows ≤ length (rows_text rows)
unfolding rows_text
rows-few [] = omega arith
rows-few (row ∷ rows) = let some = some-text row in let more = rows-few rows in omega (arith, length-append (row_text default_writer row) (rows_text rows))

records-all : (rows : List Row) → records default_config (rows_text rows) ≡ map read_back rows
records-all rows =
    let few = rows-few rows in
    ap (λ (n : ℕ). records_from default_config n st.StartRecord (rows_text rows)) (split (length (rows_text rows) + 1) (length rows) (omega arith))
    ∙ records-rows rows (length (rows_text rows) + 1 - length rows)
  where
    split : (m n : ℕ) → n ≤ m → m ≡ n + (m - n)
    split m n l = omega arith

no-marks : (columns rows : ℕ) (rest : List Row) → without_marks (rows_text (cert_row columns rows ∷ rest)) ≡ rows_text (cert_row columns rows ∷ rest)
unfolding without_marks rows_text fields_text is_blank
no-marks columns rows rest = refl

read-same : {A : Type 0} (f : A → Row) (xs : List A) (rest : List Row) → ((x : A) → read_back (f x) ≡ f x) → map read_back (map f xs ++ rest) ≡ map f xs ++ map read_back rest
read-same f [] rest same = refl
read-same f (x ∷ xs) rest same = ap₂ (λ (r : Row) (rs : List Row). r ∷ rs) (same x) (read-same f xs rest same)

read-all : (columns rows : ℕ) (pairs : List (ℕ × ℕ)) (found : CoverLists) → map read_back (all_rows columns rows pairs found) ≡ all_rows columns rows pairs found
read-all columns rows pairs found =
    ap (λ (rs : List Row). cert_row columns rows ∷ rs)
    (read-same pair_row pairs (from_keys found) (λ x. refl)
    ∙ ap (λ (rs : List Row). map pair_row pairs ++ rs)
    (read-same key_row found.keys (from_fds found.fds) (λ x. refl)
    ∙ ap (λ (rs : List Row). map key_row found.keys ++ rs) (read-same fd_row found.fds (end_row ∷ []) (λ x. refl))))

-- ---- what the lines say
line-cert : (columns rows : ℕ) → columns ≤ 4294967295 → rows ≤ 4294967295 → line_of (cert_row columns rows) ≡ Some (the.Cert (record { columns = columns; rows = rows }))
unfolding line_of kind_of
line-cert columns rows l m = ap₂ (λ (a b : Option ℕ). of_both (λ c r. the.Cert (record { columns = c; rows = r })) a b) (number-decimal columns l) (number-decimal rows m)

abbrev pub row_pair : ℕ × ℕ → RowPair
row_pair pair = record { first = pair.0; second = pair.1 }

line-pair : (pair : ℕ × ℕ) → pair.0 ≤ 4294967295 → pair.1 ≤ 4294967295 → line_of (pair_row pair) ≡ Some (the.Pair (row_pair pair))
unfolding line_of kind_of
line-pair pair l m = ap₂ (λ (a b : Option ℕ). of_both (λ i j. the.Pair (record { first = i; second = j })) a b) (number-decimal pair.0 l) (number-decimal pair.1 m)

line-key : (key : Columns) → key < 2 ^ 128 → line_of (key_row key) ≡ Some (the.Key key)
unfolding line_of kind_of
line-key key l = ap (λ (o : Option ℕ). option_map the.Key o) (columns_of-text key l)

line-fd : (fd : Fd) → fd.left < 2 ^ 128 → fd.right < 128 → line_of (fd_row fd) ≡ Some (the.Fd fd)
unfolding line_of kind_of
line-fd fd l m = ap₂ (λ (a b : Option ℕ). of_both (λ left right. the.Fd (record { left = left; right = right })) a b) (columns_of-text fd.left l) (column_of-decimal fd.right m)

line-end : line_of end_row ≡ Some the.End
unfolding line_of kind_of
line-end = refl

lines-same : {A : Type 0} (f : A → Row) (g : A → Line) (xs : List A) (rows : List Row) (lines : List Line) → ((x : A) → Listed x xs → line_of (f x) ≡ Some (g x)) → map line_of rows ≡ map Some lines
    → map line_of (map f xs ++ rows) ≡ map Some (map g xs ++ lines)
lines-same f g [] rows lines each rest = rest
lines-same f g (x ∷ xs) rows lines each rest = ap₂ (λ (o : Option Line) (os : Said). o ∷ os) (each x (inl refl)) (lines-same f g xs rows lines (λ y l. each y (inr l)) rest)

map-twice : {A B C : Type 0} (f : A → B) (g : B → C) (xs : List A) → map (λ x. g (f x)) xs ≡ map g (map f xs)
map-twice f g [] = refl
map-twice f g (x ∷ xs) = ap (λ ys. g (f x) ∷ ys) (map-twice f g xs)

-- the numbers are small enough to be read back
pub record AreSmall (columns rows : ℕ) (pairs : List (ℕ × ℕ)) (found : CoverLists) : Type 0 where
  pub columns_small : columns ≤ 4294967295
  pub rows_small : rows ≤ 4294967295
  pub pairs_small : (p : ℕ × ℕ) → Listed p pairs → (p.0 ≤ 4294967295) × (p.1 ≤ 4294967295)
  pub keys_small : (x : Columns) → Listed x found.keys → x < 2 ^ 128
  pub fds_small : (f : Fd) → Listed f found.fds → (f.left < 2 ^ 128) × (f.right < 128)

pub said-written : (columns rows : ℕ) (pairs : List (ℕ × ℕ)) (found : CoverLists) → AreSmall columns rows pairs found
    → said (certificate_text columns rows pairs found) ≡ map Some (lines_of (record { columns = columns; rows = rows }) (map row_pair pairs) found)
unfolding records_of
said-written columns rows pairs found small =
    let text = text-rows columns rows pairs found in
    let bytes = rows_text (all_rows columns rows pairs found) in
    ap said text
    ∙ ap (λ (t : List ℕ). map line_of (records default_config t)) (no-marks columns rows (from_pairs pairs found))
    ∙ ap (map line_of) (records-all (all_rows columns rows pairs found) ∙ read-all columns rows pairs found)
    ∙ ap₂ (λ (o : Option Line) (os : Said). o ∷ os) (line-cert columns rows small.columns_small small.rows_small)
    (lines-same pair_row (λ p. the.Pair (row_pair p)) pairs (from_keys found) _ (λ p l. let s = small.pairs_small p l in line-pair p s.0 s.1)
    (lines-same key_row (λ k. the.Key k) found.keys (from_fds found.fds) _ (λ x l. line-key x (small.keys_small x l))
    (lines-same fd_row (λ f. the.Fd f) found.fds (end_row ∷ []) (the.End ∷ []) (λ f l. let s = small.fds_small f l in line-fd f s.0 s.1)
    (ap (λ (o : Option Line). o ∷ []) line-end))))
    ∙ ap (λ (ls : List Line). map Some (the.Cert (record { columns = columns; rows = rows }) ∷ (ls ++ (map the.Key found.keys ++ (map the.Fd found.fds ++ the.End ∷ []))))) (map-twice row_pair the.Pair pairs)
