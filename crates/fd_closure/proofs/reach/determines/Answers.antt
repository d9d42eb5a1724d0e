use Rattle.std.proofs.Common.{true, false, sym, subst}
use Rattle.col_set.specs.Subsets.{true-subset}
use Rattle.rel_base.specs.Covers.{IsInOrder}
use Rattle.fd_closure.proofs.Reaching.{covering-none, covering-more, covering-all, covering-not, rest_smaller, told}
use Rattle.fd_closure.proofs.reach.determines.Goals as goal

pub loop-column-init : goal.loop-column-init
loop-column-init c = covering-none c.args.covers.now.fds c.args.x c.args.s c.minus-rest.result c.minus-rest.ensures

pub loop-column-smaller : goal.loop-column-smaller
loop-column-smaller c = rest_smaller c.loop-column.rest c.without-rest.result c.in-Some.column c.in-Some.ensures.value c.without-rest.ensures

pub has_left_inside-requires : goal.has_left_inside-requires
has_left_inside-requires c = subst IsInOrder (sym c.fds-fds.ensures.value) c.fds-fds.ensures.order

pub loop-column-preserved : goal.loop-column-preserved
loop-column-preserved c = covering-more c.args.covers.now.fds c.args.x c.args.s c.loop-column.rest c.without-rest.result c.in-Some.column c.loop-column.invariant c.without-rest.ensures
    (told c.args.covers.now.fds c.fds-fds.result.now c.args.x c.in-Some.column c.has_left_inside.result true c.fds-fds.ensures.value c.has_left_inside.ensures c.if-not-has_left_inside.false)

pub returns-then-not-has_left_inside : goal.returns-then-not-has_left_inside
returns-then-not-has_left_inside c = sym (covering-not c.args.covers.now.fds c.args.x c.args.s c.loop-column.rest c.in-Some.column c.loop-column.invariant c.in-Some.ensures.value
    (told c.args.covers.now.fds c.fds-fds.result.now c.args.x c.in-Some.column c.has_left_inside.result false c.fds-fds.ensures.value c.has_left_inside.ensures c.if-not-has_left_inside.true))

pub returns : goal.returns
returns c = sym (true-subset (covering-all c.args.covers.now.fds c.args.x c.args.s c.loop-column.rest c.loop-column.invariant c.in_default.ensures.value))
