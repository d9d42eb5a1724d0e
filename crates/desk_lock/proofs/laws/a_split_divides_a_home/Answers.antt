use Rattle.desk_lock.proofs.Numbers.{homes_divide}
use Rattle.desk_lock.proofs.laws.a_split_divides_a_home.Goals as goal

pub returns : goal.returns
returns g c = homes_divide
