use Rattle.desk_lock.proofs.Histories.{calls_of-goes_on}
use Rattle.desk_lock.proofs.laws.calls_of_a_home_stay.Goals as goal

pub returns : goal.returns
returns g c = λ v number later h on. calls_of-goes_on _ number v.seen later h on
