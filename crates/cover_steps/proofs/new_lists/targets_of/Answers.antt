use Rattle.std.proofs.Common.{◌∙◌, ◌++◌, ◌∷◌, [], List, sym, ap}
use Rattle.col_set.specs.declared.target.Target.{Target}
use Rattle.col_set.specs.declared.target.Target.TheVariants.{Col}
use Rattle.cover_steps.proofs.Drafting.{targets_more}
use Rattle.cover_steps.proofs.new_lists.targets_of.Goals as goal

pub loop-column-preserved : goal.loop-column-preserved
loop-column-preserved c = c.in_ok-push-2.ensures.items ∙ ap (λ (ts : List Target). ts ++ Col c.loop-column.column ∷ []) c.loop-column.invariant ∙ sym (targets_more c.loop-column.column)
