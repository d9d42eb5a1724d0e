use Rattle.std.proofs.Common.{◌≡◌, ◌∙◌, sym, ap, refl, ◌+◌, arith, length, ℕ, true, nat_eq, Option, Some, None}
use Rattle.std.specs.Option.{option_eq}
use Rattle.std.proofs.lemmas.Bool.{false≢true, eqb-true}
use Rattle.csv.specs.Records.{fields_of}
use Rattle.rel_base.specs.declared.why.Why.TheVariants.{Columns, Fields, NoHeader}
use Rattle.rel_base.specs.Relation.{Content}
use Rattle.csv_load.specs.Records.{records_of}
use Rattle.csv_load.specs.WideRecords.{IsWideRecord}
use Rattle.csv_load.proofs.FirstRefused.{header_accepted, no_records, read_header, read_row, read_whole, reads_as_refused, reads_as_relation, refuse_row, refuse_wide, refused_header, row_accepted, wide_refused}
use Rattle.csv_load.proofs.load.try_read.Goals as goal

pub returns-then-not-branch : goal.returns-then-not-branch
returns-then-not-branch c =
    let end = rw c.if-not-branch.true at c.in_ok-next.ensures.end in
    reads_as_refused c.args.limits.now (records_of c.args.bytes.now) 0 NoHeader (rw (← c.new-reader.ensures.records, end.0) (no_records c.args.limits.now))

pub returns-then-has_wide_header : goal.returns-then-has_wide_header
returns-then-has_wide_header c =
    reads_as_refused c.args.limits.now (records_of c.args.bytes.now) 1 Columns (wide_refused c.args.limits.now (records_of c.args.bytes.now) (c.has_wide_header.ensures c.if-has_wide_header.true))

pub returns-in-Some : goal.returns-in-Some
returns-in-Some c =
    let found = rw c.if-not-branch.false at c.in_ok-next.ensures.found in
    reads_as_refused c.args.limits.now (records_of c.args.bytes.now) 1 c.in-Some.why
    (rw (← c.new-reader.ensures.records, found) (refused_header c.args.limits.now (fields_of c.next.new.fields) c.next.new.self.left c.in-Some.why (sym c.in-Some.ensures)))

pub without_rows-requires-clause-some : goal.without_rows-requires-clause-some
without_rows-requires-clause-some c =
    let some = rw c.if-not-branch.false at c.in_ok-next.ensures.some in
    let names = ap length (c.of-names.ensures ∙ ap fields_of c.in_ok-clone.ensures.cases) in
    omega (arith, some, names)

-- a header that no rule refuses is as narrow as a relation's
pub without_rows-requires-clause-narrow : goal.without_rows-requires-clause-narrow
without_rows-requires-clause-narrow c =
    let header = header_accepted c.args.limits.now (fields_of c.next.new.fields) (sym c.in_default.ensures) in
    let names = ap length (c.of-names.ensures ∙ ap fields_of c.in_ok-clone.ensures.cases) in
    let narrow = header.columns in
    let few = c.args.limits.now.few_columns in
    omega (arith, narrow, few, names)

pub loop-giant-init : goal.loop-giant-init
loop-giant-init c =
    let header = header_accepted c.args.limits.now (fields_of c.next.new.fields) (sym c.in_default.ensures) in
    let found = rw c.if-not-branch.false at c.in_ok-next.ensures.found in
    let some = rw c.if-not-branch.false at c.in_ok-next.ensures.some in
    let all = sym c.new-reader.ensures.records ∙ found in
    let names : c.in_ok-relation.relation.names ≡ fields_of c.next.new.fields = c.in_ok-relation.ensures.names ∙ c.of-names.ensures ∙ ap fields_of c.in_ok-clone.ensures.cases in
    rw (names, c.in_ok-relation.ensures.rows) record {
      read = read_header c.args.limits.now (records_of c.args.bytes.now) (fields_of c.next.new.fields) c.next.new.self.left all (sym c.in_default.ensures);
      narrow = header.columns;
      width = c.len-width.ensures;
      some = some;
    }

-- an optional number that equals a number
same_number : (found : Option ℕ) (number : ℕ) → option_eq nat_eq found (Some number) ≡ true → found ≡ Some number
same_number None number e = absurd (false≢true e)
same_number (Some found) number e = ap Some (eqb-true found number e)

-- the record that comes next has too many fields
pub returns-then-eq : goal.returns-then-eq
returns-then-eq c =
    let is : c.giant_record-giant.result ≡ Some (c.len.result + 2) = same_number c.giant_record-giant.result (c.len.result + 2) (sym c.eq.ensures ∙ c.if-eq.true) in
    let wide : IsWideRecord c.args.limits.now.columns (records_of c.args.bytes.now) (c.len.result + 2) = rw is at c.giant_record-giant.ensures in
    reads_as_refused c.args.limits.now (records_of c.args.bytes.now) (c.len.result + 2) Fields
    (rw c.len.ensures.value (refuse_wide c.args.limits.now (records_of c.args.bytes.now) c.loop-giant.relation.names c.loop-giant.relation.rows c.loop-giant.reader.left
    c.loop-giant.invariant.read c.loop-giant.invariant.narrow (rw c.len.ensures.value at wide)))

pub returns-in-Some-row_refusal : goal.returns-in-Some-row_refusal
returns-in-Some-row_refusal c =
    let found = rw c.if-not-branch-2.false at c.in_ok-next-2.ensures.found in
    let refuses = rw (c.loop-giant.invariant.width, c.len.ensures.value) at (sym c.in-Some-row_refusal.ensures) in
    reads_as_refused c.args.limits.now (records_of c.args.bytes.now) (c.len.result + 2) c.in-Some-row_refusal.why
    (rw c.len.ensures.value (refuse_row c.args.limits.now (records_of c.args.bytes.now) c.loop-giant.relation.names c.loop-giant.relation.rows c.loop-giant.reader.left
    (fields_of c.next-in-loop-giant.new.fields) c.next-in-loop-giant.new.self.left c.in-Some-row_refusal.why c.loop-giant.invariant.read found refuses))

-- a row that no rule refuses is one of the relation
pub with_record-requires-clause-wide : goal.with_record-requires-clause-wide
with_record-requires-clause-wide c =
    (row_accepted c.args.limits.now c.len-width.result (c.len.result + 2) (fields_of c.next-in-loop-giant.new.fields) (sym c.in_default-row_refusal.ensures)).fields ∙ c.loop-giant.invariant.width

pub with_record-requires-clause-room : goal.with_record-requires-clause-room
with_record-requires-clause-room c =
    let row = row_accepted c.args.limits.now c.len-width.result (c.len.result + 2) (fields_of c.next-in-loop-giant.new.fields) (sym c.in_default-row_refusal.ensures) in
    let number = row.number in
    let few = c.args.limits.now.few_rows in
    let count = c.len.ensures.value in
    omega (arith, number, few, count)

pub loop-giant-preserved : goal.loop-giant-preserved
loop-giant-preserved c =
    let found = rw c.if-not-branch-2.false at c.in_ok-next-2.ensures.found in
    let accepts = rw (c.loop-giant.invariant.width, c.len.ensures.value) at (sym c.in_default-row_refusal.ensures) in
    let read = read_row c.args.limits.now (records_of c.args.bytes.now) c.loop-giant.relation.names c.loop-giant.relation.rows c.loop-giant.reader.left
    (fields_of c.next-in-loop-giant.new.fields) c.next-in-loop-giant.new.self.left c.loop-giant.invariant.read found accepts in
    rw (c.in_ok-relation-2.ensures.names, c.in_ok-relation-2.ensures.rows) record {
      read = read;
      narrow = c.loop-giant.invariant.narrow;
      width = c.loop-giant.invariant.width;
      some = c.loop-giant.invariant.some;
    }

pub returns-then-not-branch-2 : goal.returns-then-not-branch-2
returns-then-not-branch-2 c =
    let end = rw c.if-not-branch-2.true at c.in_ok-next-2.ensures.end in
    let content : Content = c.loop-giant.relation in
    let whole = read_whole c.args.limits.now (records_of c.args.bytes.now) content c.loop-giant.reader.left c.loop-giant.invariant.read end.0 c.loop-giant.invariant.some in
    reads_as_relation c.args.limits.now (records_of c.args.bytes.now) content content whole refl refl
