use Rattle.col_set.specs.Subsets.{IsSubset-refl, IsSubset-trans, IsSubset-antisymm}
use Rattle.col_set.proofs.laws.subsets_are_an_order.Goals as goal

pub returns : goal.returns
returns c = record { itself = IsSubset-refl; trans = λ x y z s r. IsSubset-trans s r; antisymm = λ x y s r. IsSubset-antisymm s r }
