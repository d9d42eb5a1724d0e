use Rattle.desk_lock.proofs.Histories.{legal-begins}
use Rattle.desk_lock.proofs.laws.beginnings_are_legal.Goals as goal

pub returns : goal.returns
returns g c = legal-begins g.K.Turns.step g.K.Turns.may
