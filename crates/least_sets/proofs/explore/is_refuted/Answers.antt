use Rattle.std.proofs.Common.{sym}
use Rattle.least_sets.proofs.Exploring.{nothing_refuted, is_told, still_stands}
use Rattle.least_sets.proofs.explore.is_refuted.Goals as goal

pub loop-w-init : goal.loop-w-init
loop-w-init g c = nothing_refuted c.args.target c.args.x

pub returns-then-refutes : goal.returns-then-refutes
returns-then-refutes g c = is_told c.args.agree_sets.now c.args.target c.args.x c.loop-w.w-index c.w-item.result c.loop-w-test.true c.w-item.is (sym c.if-refutes.ensures)

pub loop-w-preserved : goal.loop-w-preserved
loop-w-preserved g c = still_stands c.args.agree_sets.now c.args.target c.args.x c.loop-w.w-index c.w-item.result c.loop-w-test.true c.w-item.is (sym c.if-refutes.ensures) c.loop-w.invariant
