use Rattle.desk_tests.proofs.Ready.{ready_turn}
use Rattle.desk_tests.proofs.tests.party.is_held.Goals as goal

pub returns : goal.returns
returns g c = ready_turn c.args.desk.now _ _ _ _ _ c.requires c.draw_again.ensures.own c.draw_again.ensures.drawn
