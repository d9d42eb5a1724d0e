use Rattle.desk_tests.proofs.Ready.{ready_turn}
use Rattle.desk_tests.proofs.tests.party.refute.Goals as goal

pub returns : goal.returns
returns g c = ready_turn c.args.desk.now _ _ _ _ _ c.requires c.refute_again.ensures.own c.refute_again.ensures.drawn
