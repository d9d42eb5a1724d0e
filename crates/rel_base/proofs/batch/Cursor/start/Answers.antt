use Rattle.rel_base.proofs.PackedOps.{IsCursor-start}
use Rattle.rel_base.proofs.batch.Cursor.start.Goals as goal

pub returns-clause-start : goal.returns-clause-start
returns-clause-start c = IsCursor-start
