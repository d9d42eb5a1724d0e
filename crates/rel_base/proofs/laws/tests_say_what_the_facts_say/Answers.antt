use Rattle.rel_base.proofs.States.{live_climbs}
use Rattle.rel_base.proofs.Valid.{Holds-tested, holds-true, HoldsBelow-tested, holds_below-true}
use Rattle.rel_base.proofs.Minima.{MinFd-tested, min_fd-true, MinKey-tested, min_key-true}
use Rattle.rel_base.proofs.laws.tests_say_what_the_facts_say.Goals as goal

pub returns : goal.returns
returns c r is =
    let up = live_climbs r is in
    record {
      dependency = λ x t. (Holds-tested r x t, holds-true r x t up);
      among = λ b x t. (HoldsBelow-tested b r x t, holds_below-true b r x t up);
      minimal = λ x a l h. (MinFd-tested r x a up h l, min_fd-true r x a up);
      key = λ x l. (MinKey-tested r x up l, min_key-true r x up);
    }
