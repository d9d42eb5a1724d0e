use Rattle.std.proofs.Common.{refl, arith}
use Rattle.desk_tests.proofs.tests.party.mark.Goals as goal

pub is_valid-requires-clause-name : goal.is_valid-requires-clause-name
is_valid-requires-clause-name g c = refl

pub is_valid-requires-clause-parts : goal.is_valid-requires-clause-parts
is_valid-requires-clause-parts g c = refl

pub is_valid-requires-clause-some : goal.is_valid-requires-clause-some
is_valid-requires-clause-some g c = let e = c.new.ensures in omega (arith, e)
