use Rattle.lossless_join.proofs.Plain.{contains-true}
use Rattle.lossless_join.proofs.tests.plain.is_among.Goals as goal

pub returns : goal.returns
returns c = contains-true c.args.rows.now c.args.row.now c.contains.result c.contains.ensures.value
