use Rattle.desk_tests.proofs.Ready.{ready_turn}
use Rattle.desk_tests.proofs.tests.party.waits.Goals as goal

pub returns : goal.returns
returns g c = ready_turn c.args.desk.now _ _ _ _ _ c.requires c.settle.ensures.own c.settle.ensures.drawn
