-- Rows that are read apart from the header that they stand below.
use Rattle.std.proofs.Common.{◌≡◌, ◌∙◌, ap, refl, sym, subst, arith, ◌+◌, ◌<◌, ◌≤◌, List, [], ◌∷◌, ◌++◌, append_assoc, length, length-append, Option, Some, None, Result, Ok, Err, IfOk, IfSome}
use Rattle.std.specs.List.{All}
use Rattle.std.proofs.lemmas.List.{append-nil}
use Rattle.std.proofs.lemmas.List.Elements.{All-nil, All-cons, All-head, All-tail, All-append}
use Rattle.rel_base.specs.declared.limits.Limits.{Limits}
use Rattle.rel_base.specs.Cells.{Row}
use Rattle.rel_base.specs.Relation.{Content}
use Rattle.csv_load.specs.declared.load.Loaded.TheVariants.{Read}
use Rattle.csv_load.specs.Loaded.{ReadsAs}
use Rattle.csv_load.specs.Refusal.{IsWithin, refused_records, row_refusal}
use Rattle.csv_load.specs.RowsBelow.{IsHeader, HasRows}
use Rattle.csv_load.proofs.FirstRefused.{accepts, row_accepted}

-- ---- what is within the limits

pub content_is : (c d : Content) → d.names ≡ c.names → d.rows ≡ c.rows → d ≡ c
content_is c d names rows =
    let made : Row → List Row → Content = λ names rows. record { names = names; rows = rows } in
    ap (λ names. made names d.rows) names ∙ ap (made c.names) rows

-- some rows and others behind them, where both are within the limits below these names
pub within_both : (limits : Limits) (names : Row) (rows others : List Row)
    → IsWithin limits (record { names = names; rows = rows }) → IsWithin limits (record { names = names; rows = others }) → length rows + length others ≤ limits.rows
    → IsWithin limits (record { names = names; rows = rows ++ others })
within_both limits names rows others one other few =
    let short : Row → Type 0 = λ row. All (λ cell. length cell ≤ limits.cell) row in record {
      columns = one.columns;
      widths = All-append (λ row. length row ≡ length names) rows others one.widths other.widths;
      cells = All-cons short names (rows ++ others) (All-head short names rows one.cells)
          (All-append short rows others (All-tail short names rows one.cells) (All-tail short names others other.cells));
      rows = rw length-append few;
    }

pub header_within : (limits : Limits) (c : Content) → 0 < length c.names → IsWithin limits c → IsHeader limits c.names
header_within limits c some within =
    let short : Row → Type 0 = λ row. All (λ cell. length cell ≤ limits.cell) row in record {
      some = some;
      within = record {
        columns = within.columns;
        widths = All-nil (λ row. length row ≡ length c.names);
        cells = All-cons short c.names [] (All-head short c.names c.rows within.cells) (All-nil short);
        rows = omega arith;
      };
    }

-- ---- a walk over the records

-- these rows were read below these names, and these records are left
pub record AreRead (limits : Limits) (names : Row) (all left : List Row) (relation : Content) : Type 0 where
  pub records : all ≡ relation.rows ++ left
  pub names_are : relation.names ≡ names
  pub within : IsWithin limits relation

pub read_none : (limits : Limits) (names : Row) (all : List Row) (relation : Content) → IsHeader limits names → relation.names ≡ names → relation.rows ≡ []
    → AreRead limits names all all relation
read_none limits names all relation header names_are none = record {
  records = rw none refl;
  names_are = names_are;
  within = subst (IsWithin limits) (sym (content_is (record { names = names; rows = [] }) relation names_are none)) header.within;
}

-- a row that no rule refuses
pub record IsTaken (limits : Limits) (relation : Content) (row : Row) : Type 0 where
  pub wide : length row ≡ length relation.names
  pub few : length relation.rows + 1 ≤ limits.rows
  pub within : IsWithin limits (record { names = relation.names; rows = relation.rows ++ row ∷ [] })

pub taken : (limits : Limits) (names : Row) (all left : List Row) (relation : Content) (row : Row) → AreRead limits names all left relation
    → row_refusal limits (length names) (length relation.rows + 2) row ≡ None → IsTaken limits relation row
taken limits names all left relation row read accepts =
    let is = row_accepted limits (length names) (length relation.rows + 2) row accepts in
    let number = is.number in
    let wide : length row ≡ length relation.names = is.fields ∙ ap length (sym read.names_are) in
    let few : length relation.rows + 1 ≤ limits.rows = omega (arith, number) in
    let within = read.within in
    let short : Row → Type 0 = λ row. All (λ cell. length cell ≤ limits.cell) row in
    let one : IsWithin limits (record { names = relation.names; rows = row ∷ [] }) = record {
      columns = within.columns;
      widths = All-cons (λ row. length row ≡ length relation.names) row [] wide (All-nil (λ row. length row ≡ length relation.names));
      cells = All-cons short relation.names (row ∷ []) (All-head short relation.names relation.rows within.cells) (All-cons short row [] is.cells (All-nil short));
      rows = omega (arith, few);
    } in
    record { wide = wide; few = few; within = within_both limits relation.names relation.rows (row ∷ []) within one few }

pub read_row : (limits : Limits) (names : Row) (all left rest : List Row) (relation after : Content) (row : Row) → AreRead limits names all left relation
    → left ≡ row ∷ rest → IsTaken limits relation row → after.names ≡ relation.names → after.rows ≡ relation.rows ++ row ∷ []
    → AreRead limits names all rest after
read_row limits names all left rest relation after row read first is names_are rows_are =
    let longer : Content = record { names = relation.names; rows = relation.rows ++ row ∷ [] } in record {
      records = read.records ∙ ap (λ (rows : List Row). relation.rows ++ rows) first ∙ sym (append_assoc relation.rows (row ∷ []) rest) ∙ ap (λ (rows : List Row). rows ++ rest) (sym rows_are);
      names_are = names_are ∙ read.names_are;
      within = subst (IsWithin limits) (sym (content_is longer after names_are rows_are)) is.within;
    }

pub read_all : (limits : Limits) (names : Row) (all left : List Row) (relation : Content) → AreRead limits names all left relation → left ≡ []
    → HasRows limits names all relation
read_all limits names all left relation read none = record {
  names_are = read.names_are;
  rows_are = sym (read.records ∙ ap (λ (rows : List Row). relation.rows ++ rows) none ∙ append-nil relation.rows);
  within = read.within;
}

-- ---- the rows of two parts

-- a relation and the rows of another, of the same names, behind its own
pub has_both : (limits : Limits) (one other both : Content) → other.names ≡ one.names → IsWithin limits one → IsWithin limits other
    → length one.rows + length other.rows ≤ limits.rows → both.names ≡ one.names → both.rows ≡ one.rows ++ other.rows
    → HasRows limits one.names (one.rows ++ other.rows) both
has_both limits one other both same within others few names_are rows_are =
    let below : Content = record { names = one.names; rows = other.rows } in
    let longer : Content = record { names = one.names; rows = one.rows ++ other.rows } in record {
      names_are = names_are;
      rows_are = rows_are;
      within = subst (IsWithin limits) (sym (content_is longer both names_are rows_are))
          (within_both limits one.names one.rows other.rows within (subst (IsWithin limits) (sym (content_is other below (sym same) refl)) others) few);
    }

-- the first part has the header, and the other the rows that stand below it
pub reads_both : (limits : Limits) (all start rest : List Row) (first both : Content) → all ≡ start ++ rest → ReadsAs limits start (Read first)
    → HasRows limits first.names (first.rows ++ rest) both → ReadsAs limits all (Read both)
reads_both limits all start rest first both parts read has =
    let within = has.within in
    let bounds = read.bounds in
    let some = bounds.some in
    let names = ap length has.names_are in
    let records : all ≡ both.names ∷ both.rows =
    parts ∙ ap (λ (rows : List Row). rows ++ rest) read.content
    ∙ ap (λ (rows : List Row). first.names ∷ rows) (sym has.rows_are)
    ∙ ap (λ (names : Row). names ∷ both.rows) (sym has.names_are) in
    record {
      refused = tt;
      accepted = ap (refused_records limits) records ∙ accepts limits both within;
      content = records;
      bounds = record {
        some = omega (arith, names, some);
        narrow = omega (arith, within.columns, limits.few_columns);
        widths = within.widths;
        short = omega (arith, within.rows, limits.few_rows);
      };
      within = within;
    }

-- the same of a relation that there may be
pub if_reads_both : {E : Type 0} → (limits : Limits) (all start rest : List Row) (first : Content) (read : Result (Option Content) E) → all ≡ start ++ rest
    → ReadsAs limits start (Read first) → IfOk read (λ found. IfSome found (HasRows limits first.names (first.rows ++ rest)))
    → IfOk read (λ found. IfSome found (λ both. ReadsAs limits all (Read both)))
if_reads_both limits all start rest first (Err e) parts reads has = tt
if_reads_both limits all start rest first (Ok None) parts reads has = tt
if_reads_both limits all start rest first (Ok (Some both)) parts reads has = reads_both limits all start rest first both parts reads has
