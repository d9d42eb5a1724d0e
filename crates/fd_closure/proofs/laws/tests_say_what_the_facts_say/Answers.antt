use Rattle.col_set.specs.declared.target.Target.TheVariants.{Col}
use Rattle.rel_base.proofs.States.{live_climbs}
use Rattle.rel_base.proofs.Valid.{Holds-tested, holds-true}
use Rattle.fd_closure.proofs.Determined.{determined-holds, holds-determined, Determines-tested, determines-true}
use Rattle.fd_closure.proofs.laws.tests_say_what_the_facts_say.Goals as goal

pub returns : goal.returns
returns c r is =
    let up = live_climbs r is in
    record {
      columns = λ x a l. (λ e. Holds-tested r x (Col a) (determined-holds r x a e).1, λ h. holds-determined r x a l (holds-true r x (Col a) up h));
      all = λ x s. (Determines-tested r x s, determines-true r x s up);
    }
