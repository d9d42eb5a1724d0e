use Rattle.std.proofs.Common.{◌∙◌, sym}
use Rattle.synth_3nf_tests.proofs.Below.{below-next, below-all, within}
use Rattle.synth_3nf_tests.proofs.tests.below.lie_below.Goals as goal

pub loop-fd-preserved : goal.loop-fd-preserved
loop-fd-preserved c = below-next c.args.n c.args.fds.now c.loop-fd.fd-index c.fd-item.result c.loop-fd-test.true c.fd-item.is c.loop-fd.invariant (within c.args.n c.fd-item.result.left c.all.result c.all.ensures (sym c.subset_of.ensures ∙ c.if-not-subset_of.false))

pub returns : goal.returns
returns c e = below-all c.args.n c.args.fds.now c.loop-fd.fd-index c.loop-fd-test.false c.loop-fd.invariant
