use Rattle.std.proofs.Common.{arith}
use Rattle.cover_steps.proofs.Putting.{AreNewListsSoFar-first, AreNewListsSoFar-more, AreNewListsSoFar-whole}
use Rattle.cover_steps.proofs.new_lists.generalised.Goals as goal

pub loop-column-init : goal.loop-column-init
loop-column-init g c = AreNewListsSoFar-first _ _ _ _ _ c.in_ok-row_id.ensures c.in_ok-columns.ensures.items

pub loop-column-preserved : goal.loop-column-preserved
loop-column-preserved g c = AreNewListsSoFar-more _ _ _ _ _ _ _ _ c.loop-column.invariant c.in_ok-new_list.ensures c.in_ok-push.ensures.items

pub returns : goal.returns
returns g c = AreNewListsSoFar-whole _ _ _ _ _ _ c.loop-column.invariant (omega (arith, c.columns-column-end.ensures.width))
