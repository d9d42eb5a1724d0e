use Rattle.batch_update.proofs.Said.{what_is_said_is_read}
use Rattle.batch_update.proofs.laws.what_records_say_is_read.Goals as goal

pub returns : goal.returns
returns c = what_is_said_is_read
