use Rattle.std.proofs.Common.{ℕ, true, false, sym, ap, ◌∙◌, subst}
use Rattle.col_set.specs.ColSet.{IsSubset, minus}
use Rattle.rel_base.specs.Covers.{IsInOrder}
use Rattle.fd_closure.proofs.Reaching.{Reaching, reaching-none, reaching-more, reaching-not, reaching-end, rest_smaller, told}
use Rattle.fd_closure.proofs.reach.closure.Goals as goal
use Rattle.fd_closure.proofs.reach.closure.Goals.{then-has_left_inside, else-has_left_inside}

pub loop-column-init : goal.loop-column-init
loop-column-init c = reaching-none c.args.covers.now.fds c.args.x c.minus-rest.result c.fds-fds.ensures.order (c.minus-rest.ensures ∙ ap (λ (z : ℕ). minus z c.args.x) c.all.ensures)

pub loop-column-smaller : goal.loop-column-smaller
loop-column-smaller c = rest_smaller c.loop-column.rest c.without-rest.result c.in-Some.column c.in-Some.ensures.value c.without-rest.ensures

pub has_left_inside-requires : goal.has_left_inside-requires
has_left_inside-requires c = subst IsInOrder (sym c.fds-fds.ensures.value) c.fds-fds.ensures.order

pub loop-column-preserved : goal.loop-column-preserved
loop-column-preserved c =
    elim c.if-has_left_inside.branch [
      | then-has_left_inside w ↦ reaching-more c.args.covers.now.fds c.args.x c.loop-column.reached c.loop-column.rest c.if-has_left_inside.reached c.without-rest.result c.in-Some.column c.loop-column.invariant (w.reached-is ∙ w.with-reached.ensures) c.without-rest.ensures
          (told c.args.covers.now.fds c.fds-fds.result.now c.args.x c.in-Some.column c.has_left_inside.result true c.fds-fds.ensures.value c.has_left_inside.ensures w.if-has_left_inside.true)
      | else-has_left_inside w ↦ subst (λ (z : ℕ). Reaching c.args.covers.now.fds c.args.x z c.without-rest.result) (sym w.reached-is)
          (reaching-not c.args.covers.now.fds c.args.x c.loop-column.reached c.loop-column.rest c.without-rest.result c.in-Some.column c.loop-column.invariant c.without-rest.ensures
          (told c.args.covers.now.fds c.fds-fds.result.now c.args.x c.in-Some.column c.has_left_inside.result false c.fds-fds.ensures.value c.has_left_inside.ensures w.if-has_left_inside.false))
    ]

pub returns-clause-value : goal.returns-clause-value
returns-clause-value c = reaching-end c.args.covers.now.fds c.args.x c.loop-column.reached c.loop-column.rest c.loop-column.invariant c.in_default.ensures.value
