use Rattle.std.proofs.Common.{◌∙◌, ◌++◌, sym}
use Rattle.synth_3nf.proofs.Widening.{follows-own, follows-met, follows-not, same-from}
use Rattle.synth_3nf.proofs.keeping.follows.Goals as goal

pub returns-then-has : goal.returns-then-has
returns-then-has c = follows-own (c.args.kept.now ++ c.args.later.now) c.args.fd (sym c.has.ensures ∙ c.if-has.true)

pub returns-then-has-2 : goal.returns-then-has-2
returns-then-has-2 c = follows-met c.args.kept.now c.args.later.now c.args.fd c.loop-fd.reached c.loop-fd.next c.loop-fd.invariant (sym c.has-in-loop-fd.ensures ∙ c.if-has-2.true)

pub returns : goal.returns
returns c = follows-not c.args.kept.now c.args.later.now c.args.fd c.loop-fd.reached c.loop-fd.next c.loop-fd.invariant (same-from c.loop-fd.next c.loop-fd.reached c.loop-fd-test.ensures)
