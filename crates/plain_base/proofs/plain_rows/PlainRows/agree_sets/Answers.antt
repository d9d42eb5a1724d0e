use Rattle.std.proofs.Common.{◌∙◌, ap, length}
use Rattle.rel_base.specs.Cells.{Row}
use Rattle.plain_base.proofs.Folds.{items_are}
use Rattle.plain_base.proofs.Rows.{agree_sets-rows}
use Rattle.plain_base.proofs.plain_rows.PlainRows.agree_sets.Goals as goal

pub returns : goal.returns
returns c = items_are c.agree_sets.result _ _
    (agree_sets-rows c.args.self.now c.nulls.result c.len.result c.as_slice.result.now c.nulls.ensures (c.len.ensures ∙ ap (λ (names : Row). length names) c.names.ensures.value) (c.as_slice.ensures.value ∙ c.in_ok-rows.ensures.rows))
    c.agree_sets.ensures
