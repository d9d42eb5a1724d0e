use Rattle.desk_lock.proofs.Numbers.{homes_unite}
use Rattle.desk_lock.proofs.laws.a_join_unites_homes.Goals as goal

pub returns : goal.returns
returns g c = homes_unite
