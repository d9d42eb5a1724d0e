use Rattle.desk_lock.proofs.Histories.{begins-either}
use Rattle.desk_lock.proofs.laws.one_beginning_begins_the_other.Goals as goal

pub returns : goal.returns
returns g c = begins-either
