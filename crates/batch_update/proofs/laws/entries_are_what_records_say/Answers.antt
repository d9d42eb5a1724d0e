use Rattle.batch_update.proofs.Said.{entries_are_said}
use Rattle.batch_update.proofs.laws.entries_are_what_records_say.Goals as goal

pub returns : goal.returns
returns c = entries_are_said
