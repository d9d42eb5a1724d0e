use Rattle.std.proofs.Common.{inl, inr}
use Rattle.validator.proofs.KeptLists.{chosen_start, chosen_next, chosen_smaller}
use Rattle.validator.proofs.cache.lightest.Goals as goal
use Rattle.validator.proofs.cache.lightest.Goals.{then-weights-column, else-weights-column}

pub loop-column-init : goal.loop-column-init
loop-column-init c = chosen_start c.args.columns c.args.first c.requires.first c.requires.bound

pub bounds-weights-best : goal.bounds-weights-best
bounds-weights-best c = c.loop-column.invariant.bound

pub loop-column-smaller : goal.loop-column-smaller
loop-column-smaller c = chosen_smaller c.args.columns c.loop-column.best c.loop-column.left c.in-Some.column c.loop-column.invariant c.in-Some.ensures.value c.without-left.result c.without-left.ensures

pub loop-column-preserved : goal.loop-column-preserved
loop-column-preserved c =
    elim c.if-weights-column.branch [
      | then-weights-column w ↦ chosen_next c.args.columns c.loop-column.best c.loop-column.left c.in-Some.column c.loop-column.invariant c.in-Some.ensures.value c.if-weights-column.best (inr w.best-is) c.in-Some.ensures.bound c.without-left.result c.without-left.ensures
      | else-weights-column w ↦ chosen_next c.args.columns c.loop-column.best c.loop-column.left c.in-Some.column c.loop-column.invariant c.in-Some.ensures.value c.if-weights-column.best (inl w.best-is) c.in-Some.ensures.bound c.without-left.result c.without-left.ensures
    ]

pub returns-clause-column : goal.returns-clause-column
returns-clause-column c = c.loop-column.invariant.column

pub returns-clause-bound : goal.returns-clause-bound
returns-clause-bound c = c.loop-column.invariant.bound
