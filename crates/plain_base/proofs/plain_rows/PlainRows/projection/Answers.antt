use Rattle.std.proofs.Common.{◌∙◌}
use Rattle.plain_base.proofs.Folds.{items_are}
use Rattle.plain_base.proofs.Rows.{projection-rows}
use Rattle.plain_base.proofs.plain_rows.PlainRows.projection.Goals as goal

pub returns : goal.returns
returns c = items_are c.projected.result _ _ (projection-rows c.args.self.now c.args.columns c.as_slice.result.now (c.as_slice.ensures.value ∙ c.in_ok-rows.ensures.rows)) c.projected.ensures
