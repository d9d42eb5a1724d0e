use Rattle.std.proofs.Common.{◌≡◌, ◌∙◌, refl, sym, arith, Option, Some, None, false}
use Rattle.std.specs.Option.{is_some}
use Rattle.std.proofs.lemmas.Bool.{true≢false}
use Rattle.csv.specs.Records.{fields_of}
use Rattle.rel_base.specs.declared.why.Why.{Why}
use Rattle.csv_load.specs.Records.{records_of}
use Rattle.csv_load.proofs.RowsBelow.{read_row, taken}
use Rattle.csv_load.proofs.by_threads.read_rows.Goals as goal

no_refusal : (o : Option Why) → is_some o ≡ false → o ≡ None
no_refusal None e = refl
no_refusal (Some why) e = absurd (true≢false e)

pub with_record-requires-clause-room : goal.with_record-requires-clause-room
with_record-requires-clause-room c =
    let none = no_refusal c.row_refusal.result (sym c.is_some-in-loop-record.ensures ∙ c.if-is_some-2.false) in
    let accepts = rw (c.len-in-loop-record.ensures, c.len.ensures.value) at (sym c.row_refusal.ensures ∙ none) in
    let is = taken c.args.limits.now c.args.names.now (records_of c.args.text.now) c.loop-record.reader.left c.loop-record.relation (fields_of c.next.new.fields) c.loop-record.invariant accepts in
    let few = is.few in
    let most = c.args.limits.now.few_rows in
    omega (arith, few, most)

pub loop-record-preserved : goal.loop-record-preserved
loop-record-preserved c =
    let none = no_refusal c.row_refusal.result (sym c.is_some-in-loop-record.ensures ∙ c.if-is_some-2.false) in
    let accepts = rw (c.len-in-loop-record.ensures, c.len.ensures.value) at (sym c.row_refusal.ensures ∙ none) in
    let is = taken c.args.limits.now c.args.names.now (records_of c.args.text.now) c.loop-record.reader.left c.loop-record.relation (fields_of c.next.new.fields) c.loop-record.invariant accepts in
    let found = rw c.if-branch.true at c.in_ok-next.ensures.found in
    read_row c.args.limits.now c.args.names.now (records_of c.args.text.now) c.loop-record.reader.left c.next.new.self.left c.loop-record.relation c.in_ok-relation-2.relation (fields_of c.next.new.fields)
    c.loop-record.invariant found is c.in_ok-relation-2.ensures.names c.in_ok-relation-2.ensures.rows
