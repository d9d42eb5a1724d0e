use Rattle.std.proofs.Common.{refl, arith}
use Rattle.refine_pool.proofs.bench.Bench.violations.Goals as goal

pub violations_on-requires-clause-name : goal.violations_on-requires-clause-name
violations_on-requires-clause-name c = refl

pub violations_on-requires-clause-parts : goal.violations_on-requires-clause-parts
violations_on-requires-clause-parts c = refl

pub violations_on-requires-clause-some : goal.violations_on-requires-clause-some
violations_on-requires-clause-some c = let e = c.new.ensures in omega (arith, e)
