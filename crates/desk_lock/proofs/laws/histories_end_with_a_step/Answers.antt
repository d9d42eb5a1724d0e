use Rattle.desk_lock.proofs.Histories.{legal-last}
use Rattle.desk_lock.proofs.laws.histories_end_with_a_step.Goals as goal

pub returns : goal.returns
returns g c = legal-last g.K.Turns.step g.K.Turns.may
