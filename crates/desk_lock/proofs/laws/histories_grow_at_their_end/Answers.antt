use Rattle.desk_lock.proofs.Histories.{legal-snoc}
use Rattle.desk_lock.proofs.laws.histories_grow_at_their_end.Goals as goal

pub returns : goal.returns
returns g c = legal-snoc g.K.Turns.step g.K.Turns.may
