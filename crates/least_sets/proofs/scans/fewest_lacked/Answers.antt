use Rattle.std.proofs.Common.{sym, subst}
use Rattle.least_sets.proofs.Branches.{FewestSoFar, fewest_at, fewest_low, fewest_lacks, fewest_none}
use Rattle.least_sets.proofs.scans.fewest_lacked.Goals as goal
use Rattle.least_sets.proofs.scans.fewest_lacked.Goals.{then-count-least, else-count-least}

pub loop-w-init : goal.loop-w-init
loop-w-init g c = fewest_at c.args.pending.now c.args.free c.minus-fewest.result 0 c.index-pending-0.result c.requires c.index-pending-0.is c.minus-fewest.ensures

pub loop-w-preserved : goal.loop-w-preserved
loop-w-preserved g c = elim c.if-count-least.branch [
  | then-count-least w ↦ subst (FewestSoFar c.args.pending.now c.args.free) (sym w.fewest-is)
      (fewest_at c.args.pending.now c.args.free c.minus-lacked.result c.loop-w.w-index c.w-item.result c.loop-w-test.true c.w-item.is c.minus-lacked.ensures)
  | else-count-least w ↦ subst (FewestSoFar c.args.pending.now c.args.free) (sym w.fewest-is) c.loop-w.invariant
]

pub returns-clause-low : goal.returns-clause-low
returns-clause-low g c = fewest_low c.args.pending.now c.args.free c.loop-w.fewest c.loop-w.invariant

pub returns-clause-lacks : goal.returns-clause-lacks
returns-clause-lacks g c = fewest_lacks c.args.pending.now c.args.free c.loop-w.fewest c.loop-w.invariant

pub returns-clause-none : goal.returns-clause-none
returns-clause-none g c = fewest_none c.args.pending.now c.args.free c.loop-w.fewest c.loop-w.invariant
