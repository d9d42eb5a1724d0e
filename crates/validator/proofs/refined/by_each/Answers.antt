use Rattle.std.proofs.Common.{◌<◌, ℕ, sym, subst}
use Rattle.validator.proofs.Refinements.{Underway, underway_start, underway_end, underway_column, underway_smaller, underway_more}
use Rattle.validator.proofs.refined.by_each.Goals as goal

pub loop-column-init : goal.loop-column-init
loop-column-init c = subst (λ (done : ℕ). Underway c.args.snapshot.now c.args.columns c.in_ok-partition.partition done c.args.columns) (sym c.empty-done.ensures)
    (underway_start c.args.snapshot.now c.args.columns c.in_ok-partition.partition c.in_ok-partition.ensures.value c.requires)

pub refine-requires-clause-column : goal.refine-requires-clause-column
refine-requires-clause-column c = underway_column c.args.snapshot.now c.args.columns c.loop-column.partition c.loop-column.done c.loop-column.left c.loop-column.invariant c.in-Some.column c.in-Some.ensures.value

pub loop-column-smaller : goal.loop-column-smaller
loop-column-smaller c = subst (λ (n : ℕ). n < c.loop-column.left) (sym c.without-left.ensures)
    (underway_smaller c.args.snapshot.now c.args.columns c.loop-column.partition c.loop-column.done c.loop-column.left c.loop-column.invariant c.in-Some.column c.in-Some.ensures.value)

pub loop-column-preserved : goal.loop-column-preserved
loop-column-preserved c = underway_more c.args.snapshot.now c.args.columns c.loop-column.partition c.loop-column.done c.loop-column.left c.loop-column.invariant c.in-Some.column c.in-Some.ensures.value
    c.in_ok-partition-2.partition c.in_ok-partition-2.ensures.value c.with-done.result c.without-left.result c.with-done.ensures c.without-left.ensures

pub returns : goal.returns
returns c = underway_end c.args.snapshot.now c.args.columns c.loop-column.partition c.loop-column.done c.loop-column.left c.loop-column.invariant c.in_default.ensures.value
