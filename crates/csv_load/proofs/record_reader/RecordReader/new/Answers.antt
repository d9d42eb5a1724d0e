use Rattle.csv_load.specs.Records.{records_of}
use Rattle.csv_load.proofs.LeadingMarks.{strip_bom-without_marks}
use Rattle.csv_load.proofs.record_reader.RecordReader.new.Goals as goal

pub returns-clause-records : goal.returns-clause-records
unfolding records_of
returns-clause-records c =
    rw (c.from_reader-reader.ensures.state, c.from_reader-reader.ensures.source, c.after_marks.ensures, strip_bom-without_marks c.args.bytes.now)
