use Rattle.std.proofs.Common.{◌<◌, arith}
use Rattle.col_set.specs.declared.target.Target.TheVariants.{Col, RowId}
use Rattle.candidate_cover.specs.Cands.{width}
use Rattle.cover_steps.proofs.Putting.{AreNewListsSoFar-first, AreNewListsSoFar-more, AreNewListsSoFar-whole}
use Rattle.cover_steps.proofs.new_lists.specialised.Goals as goal

pub loop-column-init : goal.loop-column-init
loop-column-init c ws least are = AreNewListsSoFar-first _ _ _ _ _ (c.in_ok-row_id.ensures ws (least.each RowId tt) (are.each RowId tt)) c.in_ok-columns.ensures.items

pub loop-column-preserved : goal.loop-column-preserved
loop-column-preserved c ws least are =
    let l : c.loop-column.column < width c.args.candidates.now = omega (arith, c.columns-column-end.ensures.width) in
    AreNewListsSoFar-more _ _ _ _ _ _ _ _ (c.loop-column.invariant ws least are) (c.in_ok-new_list.ensures ws (least.each (Col c.loop-column.column) l) (are.each (Col c.loop-column.column) l)) c.in_ok-push.ensures.items

pub returns : goal.returns
returns c ws least are = AreNewListsSoFar-whole _ _ _ _ _ _ (c.loop-column.invariant ws least are) (omega (arith, c.columns-column-end.ensures.width))
