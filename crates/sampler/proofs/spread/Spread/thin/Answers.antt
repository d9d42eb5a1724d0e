use Rattle.std.proofs.Common.{ℕ, List, subst}
use Rattle.sampler.specs.Spread.{AreAmong}
use Rattle.sampler.proofs.spread.Spread.thin.Goals as goal

pub returns-clause-among : goal.returns-clause-among
returns-clause-among c = subst (λ (pairs : List (ℕ × ℕ)). AreAmong pairs c.in_ok-self.field-0.items) c.as_slice.ensures.value c.in_ok-self.ensures.among
