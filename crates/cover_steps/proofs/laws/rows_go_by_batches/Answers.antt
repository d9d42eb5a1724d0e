use Rattle.cover_steps.proofs.Going.{rows_are_after}
use Rattle.cover_steps.proofs.laws.rows_go_by_batches.Goals as goal

pub returns : goal.returns
returns c = rows_are_after
