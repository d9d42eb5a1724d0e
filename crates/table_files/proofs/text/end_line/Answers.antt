use Rattle.report_text.proofs.LineText.{ends_line}
use Rattle.table_files.proofs.text.end_line.Goals as goal

pub returns : goal.returns
returns c =
    let e = c.end_record.ensures in
    ends_line c.args.writer.now c.end_record.new.self _ _ c.map_err.ensures.variant e.bytes e.same e.fields e.wrote
