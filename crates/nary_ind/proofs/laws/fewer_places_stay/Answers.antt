use Rattle.nary_ind.proofs.Places.{fewer_places}
use Rattle.nary_ind.proofs.laws.fewer_places_stay.Goals as goal

pub returns : goal.returns
returns c rs d i k e = fewer_places rs d i k e
