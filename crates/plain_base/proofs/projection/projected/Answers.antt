use Rattle.std.proofs.Common.{◌∙◌, Vec, Global, sym, ap}
use Rattle.std.specs.List.{list_any}
use Rattle.rel_base.specs.Cells.{Row}
use Rattle.rel_base.specs.Projection.{same_row}
use Rattle.plain_base.proofs.RowParts.{projected_none, projected_pushed, projected_left}
use Rattle.plain_base.proofs.projection.projected.Goals as goal
use Rattle.plain_base.proofs.projection.projected.Goals.{then-not-has_row+in_ok-push, else-not-has_row}

pub loop-row-init : goal.loop-row-init
loop-row-init c = c.new-parts.ensures.items ∙ projected_none c.args.columns

pub loop-row-preserved : goal.loop-row-preserved
loop-row-preserved c = elim c.if-not-has_row.branch [
  | then-not-has_row+in_ok-push w ↦
      projected_pushed c.args.columns c.args.rows.now c.loop-row.row-index c.row-item.result c.loop-row-test.true c.row-item.is c.loop-row.parts.items c.if-not-has_row.parts.items c.in_ok-part.part c.loop-row.invariant c.in_ok-part.ensures
      (ap (list_any (λ other. same_row other c.in_ok-part.part)) (sym c.deref.ensures.value) ∙ sym c.has_row.ensures ∙ w.if-not-has_row.true) (ap (λ (v : Vec Row Global). v.items) w.parts-is ∙ w.in_ok-push.ensures.items)
  | else-not-has_row w ↦
      projected_left c.args.columns c.args.rows.now c.loop-row.row-index c.row-item.result c.loop-row-test.true c.row-item.is c.loop-row.parts.items c.if-not-has_row.parts.items c.in_ok-part.part c.loop-row.invariant c.in_ok-part.ensures
      (ap (list_any (λ other. same_row other c.in_ok-part.part)) (sym c.deref.ensures.value) ∙ sym c.has_row.ensures ∙ w.if-not-has_row.false) (ap (λ (v : Vec Row Global). v.items) w.parts-is)
]
