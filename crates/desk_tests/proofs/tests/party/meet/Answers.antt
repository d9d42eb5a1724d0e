use Rattle.std.proofs.Common.{◌-◌}
use Rattle.desk_tests.proofs.Ready.{ready_met}
use Rattle.desk_tests.proofs.tests.party.meet.Goals as goal

pub returns : goal.returns
returns g c = ready_met c.args.desk.now c.args.party.now.feeder.pass c.hire-messenger.new.pass.pass c.args.party.now.worker.pass c.join.new.into.pass c.args.party.now.left (c.args.party.now.left - 1) c.args.party.now.jobs.items c.requires c.hire-messenger.ensures.own.0 c.hire-messenger.ensures.kept c.join.ensures.own c.join.ensures.drawn
