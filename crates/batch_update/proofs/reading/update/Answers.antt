use Rattle.std.proofs.Common.{◌≡◌, ◌<◌, ◌∙◌, refl, sym, arith, length, length-drop, drop, Some, None}
use Rattle.csv.specs.Records.{fields_of}
use Rattle.rel_base.proofs.Fields.{field-there}
use Rattle.batch_update.proofs.Entries.{named_row_with_cells, second}
use Rattle.batch_update.proofs.reading.update.Goals as goal

pub unwrap-requires : goal.unwrap-requires
unwrap-requires c =
    let there : 1 < length (fields_of c.args.fields.now) = omega (arith, c.len.ensures) in
    field-there c.get.result (fields_of c.args.fields.now) 1 there c.get.ensures.value

pub returns-in_default : goal.returns-in_default
returns-in_default c =
    let there : 1 < length (fields_of c.args.fields.now) = omega (arith, c.len.ensures) in
    let width : length (drop 2 (fields_of c.args.fields.now)) ≡ c.args.columns = rw length-drop (omega (arith, c.len.ensures)) in
    let is = second (fields_of c.args.fields.now) c.get.result c.unwrap.result there c.unwrap.ensures c.get.ensures.value in
    sym (named_row_with_cells c.args.columns c.args.limits.now (fields_of c.args.fields.now) c.unwrap.result.now None width is (sym c.in_default.is ∙ c.row_number.ensures))

pub returns-then-has_long_cell : goal.returns-then-has_long_cell
returns-then-has_long_cell c =
    let there : 1 < length (fields_of c.args.fields.now) = omega (arith, c.len.ensures) in
    let width : length (drop 2 (fields_of c.args.fields.now)) ≡ c.args.columns = rw length-drop (omega (arith, c.len.ensures)) in
    let is = second (fields_of c.args.fields.now) c.get.result c.unwrap.result there c.unwrap.ensures c.get.ensures.value in
    rw (
      named_row_with_cells c.args.columns c.args.limits.now (fields_of c.args.fields.now) c.unwrap.result.now (Some c.in-Some.number) width is c.in-Some.ensures,
      ← c.has_long_cell.ensures,
      c.if-has_long_cell.true,
    ) refl

pub returns : goal.returns
returns c =
    let there : 1 < length (fields_of c.args.fields.now) = omega (arith, c.len.ensures) in
    let width : length (drop 2 (fields_of c.args.fields.now)) ≡ c.args.columns = rw length-drop (omega (arith, c.len.ensures)) in
    let is = second (fields_of c.args.fields.now) c.get.result c.unwrap.result there c.unwrap.ensures c.get.ensures.value in
    rw (
      named_row_with_cells c.args.columns c.args.limits.now (fields_of c.args.fields.now) c.unwrap.result.now (Some c.in-Some.number) width is c.in-Some.ensures,
      ← c.has_long_cell.ensures,
      c.if-has_long_cell.false,
      ← c.in_ok-cells.ensures,
    ) refl
