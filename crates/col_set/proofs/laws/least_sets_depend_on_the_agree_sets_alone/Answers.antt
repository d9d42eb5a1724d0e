use Rattle.col_set.proofs.Places.{Contains-listed, Listed-contained}
use Rattle.col_set.proofs.More.{least_of_same}
use Rattle.col_set.proofs.laws.least_sets_depend_on_the_agree_sets_alone.Goals as goal

pub returns : goal.returns
returns c n vs ws t same = least_of_same n vs ws t (λ w h. Listed-contained w ws ((same w).0 (Contains-listed w vs h))) (λ w h. Listed-contained w vs ((same w).1 (Contains-listed w ws h)))
