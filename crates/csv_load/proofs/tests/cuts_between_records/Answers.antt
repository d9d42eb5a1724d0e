use Rattle.csv_load.proofs.Cuts.{unmarked}
use Rattle.csv_load.proofs.tests.cuts_between_records.Goals as goal

pub cut-requires : goal.cut-requires
cut-requires g c = unmarked _ c.after_marks.result.now c.after_marks.ensures
