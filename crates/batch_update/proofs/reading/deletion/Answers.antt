use Rattle.std.proofs.Common.{◌≡◌, ◌<◌, sym, arith, length, Some, None}
use Rattle.csv.specs.Records.{fields_of}
use Rattle.rel_base.proofs.Fields.{field-there}
use Rattle.batch_update.proofs.Entries.{named_row, second}
use Rattle.batch_update.proofs.reading.deletion.Goals as goal

pub unwrap-requires : goal.unwrap-requires
unwrap-requires c =
    let there : 1 < length (fields_of c.args.fields.now) = omega (arith, c.len.ensures) in
    field-there c.get.result (fields_of c.args.fields.now) 1 there c.get.ensures.value

pub returns-in-Some : goal.returns-in-Some
returns-in-Some c =
    let count : length (fields_of c.args.fields.now) ≡ 2 = omega (arith, c.len.ensures) in
    let there : 1 < length (fields_of c.args.fields.now) = omega (arith, count) in
    let is = second (fields_of c.args.fields.now) c.get.result c.unwrap.result there c.unwrap.ensures c.get.ensures.value in
    sym (named_row (fields_of c.args.fields.now) c.unwrap.result.now (Some c.in-Some.number) count is c.in-Some.ensures)

pub returns-in-None : goal.returns-in-None
returns-in-None c =
    let count : length (fields_of c.args.fields.now) ≡ 2 = omega (arith, c.len.ensures) in
    let there : 1 < length (fields_of c.args.fields.now) = omega (arith, count) in
    let is = second (fields_of c.args.fields.now) c.get.result c.unwrap.result there c.unwrap.ensures c.get.ensures.value in
    sym (named_row (fields_of c.args.fields.now) c.unwrap.result.now None count is c.in-None.ensures)
