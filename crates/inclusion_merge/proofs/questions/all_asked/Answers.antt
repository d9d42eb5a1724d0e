use Rattle.std.proofs.Common.{◌∙◌, ap, arith}
use Rattle.inclusion_merge.specs.Asked.{cells_asked}
use Rattle.inclusion_merge.proofs.Asking.{all_asked_more}
use Rattle.inclusion_merge.proofs.questions.all_asked.Goals as goal

pub loop-column-preserved : goal.loop-column-preserved
loop-column-preserved c = ap cells_asked c.in_ok-push.ensures.items ∙ all_asked_more c.loop-column.asked.items _ c.args.columns.now c.loop-column.column-index _ (omega arith) c.loop-column.invariant c.column-item.is
