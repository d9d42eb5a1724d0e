use Rattle.std.proofs.Common.{◌∙◌, sym, ap}
use Rattle.least_sets.proofs.Growing.{grown_push, grown_skip}
use Rattle.least_sets.proofs.growth.push_all_grown.Goals as goal
use Rattle.least_sets.proofs.growth.push_all_grown.Goals.{then-is_choice+in_ok-push_grown_by, else-is_choice}

pub loop-column-preserved : goal.loop-column-preserved
loop-column-preserved c = elim c.if-is_choice.branch [
  | then-is_choice+in_ok-push_grown_by w ↦
      ap (λ m. m.items) w.sets-is
      ∙ grown_push c.loop-column.column c.args.choices c.args.z c.args.inside.now c.args.near.now c.args.sets.now.items c.loop-column.sets.items w.push_grown_by.new.grown.items (sym w.if-is_choice.ensures) c.loop-column.invariant w.in_ok-push_grown_by.ensures
  | else-is_choice w ↦
      ap (λ m. m.items) w.sets-is ∙ grown_skip c.loop-column.column c.args.choices c.args.z c.args.inside.now c.args.near.now c.args.sets.now.items c.loop-column.sets.items (sym w.if-is_choice.ensures) c.loop-column.invariant
]
