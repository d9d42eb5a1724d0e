use Rattle.csv_load.proofs.FirstRefused.{first_record_is}
use Rattle.csv_load.proofs.laws.the_first_refusal_counts.Goals as goal

pub returns : goal.returns
returns c = first_record_is
