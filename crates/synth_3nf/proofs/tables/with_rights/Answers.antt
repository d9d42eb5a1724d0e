use Rattle.synth_3nf.proofs.Tabling.{rights-none, rights-next, rights-all}
use Rattle.synth_3nf.proofs.tables.with_rights.Goals as goal

pub loop-fd-init : goal.loop-fd-init
loop-fd-init c = rights-none c.args.left

pub loop-fd-preserved : goal.loop-fd-preserved
loop-fd-preserved c = rights-next c.args.kept.now c.loop-fd.fd-index c.fd-item.result c.args.left c.loop-fd.columns c.loop-fd-test.true c.fd-item.is c.loop-fd.invariant c.with_right_of-columns.result c.with_right_of-columns.ensures

pub returns : goal.returns
returns c = rights-all c.args.kept.now c.loop-fd.fd-index c.args.left c.loop-fd.columns c.loop-fd-test.false c.loop-fd.invariant
