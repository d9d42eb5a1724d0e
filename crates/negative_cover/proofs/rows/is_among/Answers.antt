use Rattle.std.proofs.Common.{◌∙◌}
use Rattle.negative_cover.proofs.Telling.{found_by_halves}
use Rattle.negative_cover.proofs.rows.is_among.Goals as goal

pub returns-then-ascending : goal.returns-then-ascending
returns-then-ascending c = c.is_ok.ensures.value ∙ found_by_halves c.args.rows.now c.args.row c.binary_search.result c.binary_search.ensures.position (c.requires c.if-ascending.true)
