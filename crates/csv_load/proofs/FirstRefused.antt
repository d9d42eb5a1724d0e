-- The first record that is refused, and what is accepted.
use Rattle.std.proofs.Common.{◌≡◌, ◌∙◌, ap, refl, sym, arith, ◌+◌, ◌-◌, ◌<◌, ◌≤◌, ℕ, suc, Bool, true, false, cond, nat_lt, not, ◌==◌, ◌||◌, List, [], ◌∷◌, ◌++◌, append_assoc, length, length-append, Option, Some, None, inl, inr}
use Rattle.std.specs.List.{All}
use Rattle.std.proofs.lemmas.Bool.{true≢false, cases_eq, ltb-false, le-ltb, lt-ltb, eqb-true, eq-eqb, ne_eqb}
use Rattle.std.proofs.lemmas.List.Elements.{All-nil, All-cons, All-head, All-tail, All-weaker}
use Rattle.std.proofs.lemmas.List.Folds.{list_any_none}
use Rattle.std.proofs.lemmas.List.{append-nil}
use Rattle.rel_base.specs.declared.limits.Limits.{Limits}
use Rattle.rel_base.specs.declared.why.Why.{Why}
use Rattle.rel_base.specs.declared.why.Why.TheVariants.{NoHeader, Columns, Fields, Cell, Rows, Bytes}
use Rattle.rel_base.specs.Cells.{Row}
use Rattle.rel_base.specs.Relation.{Content, IsContent}
use Rattle.csv_load.specs.declared.load.Loaded.TheVariants.{Read, Refused}
use Rattle.csv_load.specs.Loaded.{ReadsAs}
use Rattle.csv_load.specs.WideRecords.{IsWideRecord}
use Rattle.csv_load.specs.Records.{records_of}
use Rattle.csv_load.specs.Laws.{IsFirstRefused, RefusedAtTheFirst}
use Rattle.csv_load.specs.Refusal.{first_refused, has_long_cell, header_refusal, row_refusal, refusal, refused_file, refused_records, IsWithin}

-- ---- one record and those after it

pub first_refused-here : (rule : ℕ → Row → Option Why) (n : ℕ) (row : Row) (rows : List Row) (why : Why) → rule n row ≡ Some why
    → first_refused rule n (row ∷ rows) ≡ Some (n, why)
unfolding first_refused
first_refused-here rule n row rows why e = rw e refl

pub first_refused-later : (rule : ℕ → Row → Option Why) (n : ℕ) (row : Row) (rows : List Row) → rule n row ≡ None
    → first_refused rule n (row ∷ rows) ≡ first_refused rule (n + 1) rows
unfolding first_refused
first_refused-later rule n row rows e = rw e refl

pub first_refused-none : (rule : ℕ → Row → Option Why) (n : ℕ) → first_refused rule n [] ≡ None
unfolding first_refused
first_refused-none rule n = refl

-- ---- the rules of a record

pub short_cells : (limit : ℕ) (cells : Row) → has_long_cell limit cells ≡ false → All (λ cell. length cell ≤ limit) cells
short_cells limit [] e = All-nil (λ cell. length cell ≤ limit)
short_cells limit (cell ∷ cells) e = by (nat_lt limit (length cell)) refl e (short_cells limit cells)
  where
    by : (long : Bool) → nat_lt limit (length cell) ≡ long → long || has_long_cell limit cells ≡ false
        → (has_long_cell limit cells ≡ false → All (λ cell. length cell ≤ limit) cells) → All (λ cell. length cell ≤ limit) (cell ∷ cells)
    by true is e others = absurd (true≢false e)
    by false is e others = All-cons (λ cell. length cell ≤ limit) cell cells (ltb-false limit (length cell) is) (others e)

pub no_long_cell : (limit : ℕ) (cells : Row) → All (λ cell. length cell ≤ limit) cells → has_long_cell limit cells ≡ false
no_long_cell limit cells short =
    list_any_none (λ cell. nat_lt limit (length cell)) cells (All-weaker (λ cell. length cell ≤ limit) (λ cell. nat_lt limit (length cell) ≡ false) (λ cell h. le-ltb limit (length cell) h) cells short)

-- a header that no rule refuses
pub record IsHeader (limits : Limits) (names : Row) : Type 0 where
  pub columns : length names ≤ limits.columns
  pub cells : All (λ cell. length cell ≤ limits.cell) names

pub header_accepted : (limits : Limits) (names : Row) → header_refusal limits names ≡ None → IsHeader limits names
header_accepted limits names = by (nat_lt limits.columns (length names)) (has_long_cell limits.cell names) refl refl
  where
    by : (wide long : Bool) → nat_lt limits.columns (length names) ≡ wide → has_long_cell limits.cell names ≡ long
        → cond wide (Some Columns) (cond long (Some Cell) None) ≡ None → IsHeader limits names
    by true long w l e = cc e
    by false true w l e = cc e
    by false false w l e = record { columns = ltb-false limits.columns (length names) w; cells = short_cells limits.cell names l }

accepts_header : (limits : Limits) (names : Row) → IsHeader limits names → header_refusal limits names ≡ None
accepts_header limits names h = rw (le-ltb limits.columns (length names) h.columns, no_long_cell limits.cell names h.cells) refl

-- a row that no rule refuses
pub record IsRow (limits : Limits) (width rec : ℕ) (row : Row) : Type 0 where
  pub fields : length row ≡ width
  pub cells : All (λ cell. length cell ≤ limits.cell) row
  pub number : rec - 1 ≤ limits.rows

pub row_accepted : (limits : Limits) (width rec : ℕ) (cells : Row) → row_refusal limits width rec cells ≡ None → IsRow limits width rec cells
row_accepted limits width rec cells = by (length cells == width) (has_long_cell limits.cell cells) (nat_lt limits.rows (rec - 1)) refl refl refl
  where
    by : (same long many : Bool) → length cells == width ≡ same → has_long_cell limits.cell cells ≡ long
        → nat_lt limits.rows (rec - 1) ≡ many
        → cond (not same) (Some Fields) (cond long (Some Cell) (cond many (Some Rows) None)) ≡ None → IsRow limits width rec cells
    by false long many w l m e = cc e
    by true true many w l m e = cc e
    by true false true w l m e = cc e
    by true false false w l m e = record { fields = eqb-true (length cells) width w; cells = short_cells limits.cell cells l; number = ltb-false limits.rows (rec - 1) m }

accepts_row : (limits : Limits) (width rec : ℕ) (cells : Row) → IsRow limits width rec cells → row_refusal limits width rec cells ≡ None
accepts_row limits width rec cells h = rw (eq-eqb (length cells) width h.fields, no_long_cell limits.cell cells h.cells, le-ltb limits.rows (rec - 1) h.number) refl

-- ---- all records

-- the rows from record n on
record AreRows (limits : Limits) (width n : ℕ) (rows : List Row) : Type 0 where
  widths : All (λ row. length row ≡ width) rows
  cells : All (λ row. All (λ cell. length cell ≤ limits.cell) row) rows
  few : n + length rows ≤ limits.rows + 2

later_rule : (limits : Limits) (width n : ℕ) (cells : Row) → 2 ≤ n → refusal limits width n cells ≡ row_refusal limits width n cells
later_rule limits width n cells h = let other : n == 1 ≡ false = ne_eqb n 1 (omega arith) in rw other refl

rows_accepted : (limits : Limits) (width n : ℕ) (rows : List Row) → 2 ≤ n → n ≤ limits.rows + 2
    → first_refused (refusal limits width) n rows ≡ None → AreRows limits width n rows
rows_accepted limits width n [] h k e = record { widths = All-nil (λ row. length row ≡ width); cells = All-nil (λ row. All (λ cell. length cell ≤ limits.cell) row); few = omega arith }
rows_accepted limits width n (row ∷ rows) h k e = by (refusal limits width n row) refl (rows_accepted limits width (n + 1) rows)
  where
    by : (o : Option Why) → refusal limits width n row ≡ o
        → (2 ≤ n + 1 → n + 1 ≤ limits.rows + 2 → first_refused (refusal limits width) (n + 1) rows ≡ None → AreRows limits width (n + 1) rows) → AreRows limits width n (row ∷ rows)
    by (Some why) is more = cc (sym (first_refused-here (refusal limits width) n row rows why is) ∙ e)
    by None is more =
        let one = row_accepted limits width n row (sym (later_rule limits width n row h) ∙ is) in
        let others = more (omega arith) (omega (arith, one.number)) (sym (first_refused-later (refusal limits width) n row rows is) ∙ e) in record {
          widths = All-cons (λ row. length row ≡ width) row rows one.fields others.widths;
          cells = All-cons (λ row. All (λ cell. length cell ≤ limits.cell) row) row rows one.cells others.cells;
          few = omega (arith, others.few);
        }

accepts_rows : (limits : Limits) (width n : ℕ) (rows : List Row) → 2 ≤ n → AreRows limits width n rows
    → first_refused (refusal limits width) n rows ≡ None
accepts_rows limits width n [] h rows = first_refused-none (refusal limits width) n
accepts_rows limits width n (row ∷ rows) h all =
    let one : IsRow limits width n row = record {
      fields = All-head (λ row. length row ≡ width) row rows all.widths;
      cells = All-head (λ row. All (λ cell. length cell ≤ limits.cell) row) row rows all.cells;
      number = omega (arith, all.few);
    } in
    let others : AreRows limits width (n + 1) rows = record {
      widths = All-tail (λ row. length row ≡ width) row rows all.widths;
      cells = All-tail (λ row. All (λ cell. length cell ≤ limits.cell) row) row rows all.cells;
      few = omega (arith, all.few);
    } in
    first_refused-later (refusal limits width) n row rows (later_rule limits width n row h ∙ accepts_row limits width n row one)
    ∙ accepts_rows limits width (n + 1) rows (omega arith) others

pub refused_header : (limits : Limits) (names : Row) (rows : List Row) (why : Why) → header_refusal limits names ≡ Some why
    → refused_records limits (names ∷ rows) ≡ Some (1, why)
unfolding refused_records
refused_header limits names rows why e = first_refused-here (refusal limits (length names)) 1 names rows why e

pub wide_header : (limits : Limits) (names : Row) → limits.columns < length names → header_refusal limits names ≡ Some Columns
wide_header limits names wide = ap (λ (b : Bool). cond b (Some Columns) (cond (has_long_cell limits.cell names) (Some Cell) None)) (lt-ltb limits.columns (length names) wide)

pub wide_refused : (limits : Limits) (records : List Row) → IsWideRecord limits.columns records 1 → refused_records limits records ≡ Some (1, Columns)
wide_refused limits records h = by h.earlier h.number h.records_are
  where
    by : (earlier : List Row) → 1 ≡ length earlier + 1 → records ≡ earlier ++ (h.row ∷ h.later) → refused_records limits records ≡ Some (1, Columns)
    by [] n is = ap (refused_records limits) is ∙ refused_header limits h.row h.later Columns (wide_header limits h.row h.wide)
    by (first ∷ rows) n is = absurd (omega (arith, n))

pub refused_later : (limits : Limits) (names : Row) (rows : List Row) → header_refusal limits names ≡ None
    → refused_records limits (names ∷ rows) ≡ first_refused (refusal limits (length names)) 2 rows
unfolding refused_records
refused_later limits names rows e = first_refused-later (refusal limits (length names)) 1 names rows e

pub refused_row : (limits : Limits) (width n : ℕ) (row : Row) (rows : List Row) (why : Why)
    → row_refusal limits width (n + 2) row ≡ Some why
    → first_refused (refusal limits width) (n + 2) (row ∷ rows) ≡ Some (n + 2, why)
refused_row limits width n row rows why e = first_refused-here (refusal limits width) (n + 2) row rows why (later_rule limits width (n + 2) row (omega arith) ∙ e)

pub accepted_row : (limits : Limits) (width n : ℕ) (row : Row) (rows : List Row) → row_refusal limits width (n + 2) row ≡ None
    → first_refused (refusal limits width) (n + 2) (row ∷ rows) ≡ first_refused (refusal limits width) (n + 1 + 2) rows
accepted_row limits width n row rows e =
    let next : n + 2 + 1 ≡ n + 1 + 2 = omega arith in
    rw (first_refused-later (refusal limits width) (n + 2) row rows (later_rule limits width (n + 2) row (omega arith) ∙ e), next) refl

pub no_records : (limits : Limits) → refused_records limits [] ≡ Some (0, NoHeader)
unfolding refused_records
no_records limits = refl

-- records are accepted exactly where they are within the limits
pub accepted : (limits : Limits) (c : Content) → refused_records limits (c.names ∷ c.rows) ≡ None → IsWithin limits c
accepted limits c e = by (header_refusal limits c.names) refl
  where
    by : (o : Option Why) → header_refusal limits c.names ≡ o → IsWithin limits c
    by (Some why) is = cc (sym (refused_header limits c.names c.rows why is) ∙ e)
    by None is =
        let header = header_accepted limits c.names is in
        let rows = rows_accepted limits (length c.names) 2 c.rows (omega arith) (omega arith) (sym (refused_later limits c.names c.rows is) ∙ e) in record {
          columns = header.columns;
          widths = rows.widths;
          cells = All-cons (λ row. All (λ cell. length cell ≤ limits.cell) row) c.names c.rows header.cells rows.cells;
          rows = omega (arith, rows.few);
        }

pub accepts : (limits : Limits) (c : Content) → IsWithin limits c → refused_records limits (c.names ∷ c.rows) ≡ None
accepts limits c h =
    let header : IsHeader limits c.names = record { columns = h.columns; cells = All-head (λ row. All (λ cell. length cell ≤ limits.cell) row) c.names c.rows h.cells } in
    let rows : AreRows limits (length c.names) 2 c.rows = record { widths = h.widths; cells = All-tail (λ row. All (λ cell. length cell ≤ limits.cell) row) c.names c.rows h.cells; few = omega (arith, h.rows) } in
    refused_later limits c.names c.rows (accepts_header limits c.names header) ∙ accepts_rows limits (length c.names) 2 c.rows (omega arith) rows

-- ---- a walk over the records

-- the header and these rows were accepted, and these records are left
pub record IsReadTo (limits : Limits) (all : List Row) (names : Row) (rows left : List Row) : Type 0 where
  pub records : all ≡ names ∷ (rows ++ left)
  pub refused : refused_records limits all ≡ first_refused (refusal limits (length names)) (length rows + 2) left

pub read_header : (limits : Limits) (all : List Row) (names : Row) (left : List Row) → all ≡ names ∷ left
    → header_refusal limits names ≡ None → IsReadTo limits all names [] left
read_header limits all names left is accepts = record { records = is; refused = rw is (refused_later limits names left accepts) }

pub read_row : (limits : Limits) (all : List Row) (names : Row) (rows left : List Row) (row : Row) (rest : List Row)
    → IsReadTo limits all names rows left → left ≡ row ∷ rest
    → row_refusal limits (length names) (length rows + 2) row ≡ None → IsReadTo limits all names (rows ++ (row ∷ [])) rest
read_row limits all names rows left row rest read is accepts =
    let longer : length (rows ++ (row ∷ [])) ≡ length rows + 1 = length-append rows (row ∷ []) in
    record {
      records = rw (append_assoc rows (row ∷ []) rest) (rw is at read.records);
      refused = rw longer (rw is at read.refused ∙ accepted_row limits (length names) (length rows) row rest accepts);
    }

pub refuse_row : (limits : Limits) (all : List Row) (names : Row) (rows left : List Row) (row : Row) (rest : List Row) (why : Why)
    → IsReadTo limits all names rows left → left ≡ row ∷ rest
    → row_refusal limits (length names) (length rows + 2) row ≡ Some why → refused_records limits all ≡ Some (length rows + 2, why)
refuse_row limits all names rows left row rest why read is refuses = rw is at read.refused ∙ refused_row limits (length names) (length rows) row rest why refuses

-- two lists that start with as many rows leave the same
same_rest : (rows others left rest : List Row) → length rows ≡ length others → rows ++ left ≡ others ++ rest → left ≡ rest
same_rest [] [] left rest n e = e
same_rest [] (other ∷ others) left rest n e = absurd (omega (arith, n))
same_rest (row ∷ rows) [] left rest n e = absurd (omega (arith, n))
same_rest (row ∷ rows) (other ∷ others) left rest n e = same_rest rows others left rest (omega (arith, n)) cc

-- the next record is too wide, where the header is not
pub refuse_wide : (limits : Limits) (all : List Row) (names : Row) (rows left : List Row) → IsReadTo limits all names rows left
    → length names ≤ limits.columns → IsWideRecord limits.columns all (length rows + 2) → refused_records limits all ≡ Some (length rows + 2, Fields)
refuse_wide limits all names rows left read narrow h =
    let number = h.number in
    let wide = h.wide in
    let same : left ≡ h.row ∷ h.later = same_rest (names ∷ rows) h.earlier left (h.row ∷ h.later) (omega (arith, number)) (sym read.records ∙ h.records_are) in
    let other : length h.row == length names ≡ false = ne_eqb (length h.row) (length names) (omega (arith, narrow, wide)) in
    refuse_row limits all names rows left h.row h.later Fields read same (rw other refl)

-- nothing is left, and c has all names and rows
pub record IsReadWhole (limits : Limits) (all : List Row) (c : Content) : Type 0 where
  pub records : all ≡ c.names ∷ c.rows
  pub refused : refused_records limits all ≡ None
  pub within : IsWithin limits c
  pub bounds : IsContent c

pub read_whole : (limits : Limits) (all : List Row) (c : Content) (left : List Row) → IsReadTo limits all c.names c.rows left → left ≡ []
    → 0 < length c.names → IsReadWhole limits all c
read_whole limits all c left read is some =
    let records : all ≡ c.names ∷ c.rows = rw (is, append-nil c.rows) at read.records in
    let refused : refused_records limits all ≡ None = rw is at read.refused ∙ first_refused-none (refusal limits (length c.names)) (length c.rows + 2) in
    let within = accepted limits c (rw records at refused) in
    record {
      records = records;
      refused = refused;
      within = within;
      bounds = record {
        some = some;
        narrow = omega (arith, within.columns, limits.few_columns);
        widths = within.widths;
        short = omega (arith, within.rows, limits.few_rows);
      };
    }

pub reads_as_relation : (limits : Limits) (all : List Row) (c d : Content) → IsReadWhole limits all c → d.names ≡ c.names → d.rows ≡ c.rows
    → ReadsAs limits all (Read d)
reads_as_relation limits all c d whole names rows =
    let made : Row → List Row → Content = λ names rows. record { names = names; rows = rows } in
    let same : d ≡ c = ap (λ names. made names d.rows) names ∙ ap (made c.names) rows in
    rw same record { refused = tt; accepted = whole.refused; content = whole.records; bounds = whole.bounds; within = whole.within }

pub reads_as_refused : (limits : Limits) (all : List Row) (rec : ℕ) (why : Why) → refused_records limits all ≡ Some (rec, why)
    → ReadsAs limits all (Refused rec why)
reads_as_refused limits all rec why e = record { refused = e; accepted = tt; content = tt; bounds = tt; within = tt }

-- ---- which refusal is the first

-- record rec is refused, and none before it, where the first one has the number n
pub first_is : (rule : ℕ → Row → Option Why) (n : ℕ) (records : List Row) (rec : ℕ) (why : Why)
    → first_refused rule n records ≡ Some (rec, why) → IsFirstRefused rule n records rec why
first_is rule n [] rec why e = cc (sym (first_refused-none rule n) ∙ e)
first_is rule n (row ∷ rows) rec why e = by (rule n row) refl (first_is rule (n + 1) rows rec why)
  where
    by : (o : Option Why) → rule n row ≡ o → (first_refused rule (n + 1) rows ≡ Some (rec, why) → IsFirstRefused rule (n + 1) rows rec why)
        → IsFirstRefused rule n (row ∷ rows) rec why
    by (Some w) is more =
        let same : (n, w) ≡ (rec, why) = cc (sym (first_refused-here rule n row rows w is) ∙ e) in
        let here : n ≡ rec = ap (λ (p : ℕ × Why). p.0) same in
        let cause : w ≡ why = ap (λ (p : ℕ × Why). p.1) same in
        let none : n - n ≡ 0 = omega arith in
        rw (← here, ← cause) record {
          from = omega arith;
          upto = omega arith;
          refused = rw none is;
          earlier = λ k low high. absurd (omega arith);
        }
    by None is more =
        let later = more (sym (first_refused-later rule n row rows is) ∙ e) in
        let place : rec - n ≡ suc (rec - (n + 1)) = omega (arith, later.from) in
        record {
          from = omega (arith, later.from);
          upto = omega (arith, later.upto);
          refused = rw place later.refused;
          earlier = λ k low high. elim (cases_eq n k) [
            | inl here ↦ let none : k - n ≡ 0 = omega arith in rw (none, ← here) is
            | inr beyond ↦ let next : k - n ≡ suc (k - (n + 1)) = omega arith in rw next (later.earlier k (omega arith) high)
          ];
        }

pub first_record_is : RefusedAtTheFirst
unfolding refused_records
first_record_is limits header rows rec why e = first_is (refusal limits (length header)) 1 (header ∷ rows) rec why e

-- ---- a file's bytes

pub refused_file-short : (limits : Limits) (bytes : List ℕ) → length bytes ≤ limits.bytes
    → refused_file limits bytes ≡ refused_records limits (records_of bytes)
unfolding refused_file
refused_file-short limits bytes h = rw (le-ltb limits.bytes (length bytes) h) refl

pub refused_file-long : (limits : Limits) (bytes : List ℕ) → limits.bytes < length bytes → refused_file limits bytes ≡ Some (0, Bytes)
unfolding refused_file
refused_file-long limits bytes h = rw (lt-ltb limits.bytes (length bytes) h) refl
