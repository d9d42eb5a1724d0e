use Rattle.report_text.proofs.LineText.{writes_field}
use Rattle.table_files.proofs.text.write_cell.Goals as goal

pub returns : goal.returns
returns c =
    let e = c.write_field.ensures in
    writes_field c.args.writer.now c.write_field.new.self c.args.bytes.now _ _ c.map_err.ensures.variant e.text e.same e.count e.wrote e.stays
