use Rattle.std.proofs.Common.{[], ◌∷◌, ◌++◌, sym, subst}
use Rattle.sampler.specs.Spread.{AreAmong}
use Rattle.sampler.proofs.Among.{among_itself, among_more, among_pushed}
use Rattle.sampler.proofs.spread.Spread.offer.Goals as goal
use Rattle.sampler.proofs.spread.Spread.offer.Goals.{then-len-count+in_ok-thin, else-len-count}

pub returns-then-self-gt0-clause-among : goal.returns-then-self-gt0-clause-among
returns-then-self-gt0-clause-among c = let pairs = c.args.self.now.pairs.items in among_more pairs pairs c.args.pair (among_itself pairs)

pub returns-clause-among : goal.returns-clause-among
returns-clause-among c =
    let pairs = c.args.self.now.pairs.items in
    let kept : AreAmong pairs c.if-len-count.self.pairs.items = elim c.if-len-count.branch [
      | then-len-count+in_ok-thin w ↦ rw w.self-is w.in_ok-thin.ensures.among
      | else-len-count w ↦ rw w.self-is (among_itself pairs)
    ] in
    subst (AreAmong (pairs ++ c.args.pair ∷ [])) (sym c.in_ok-push.ensures.items) (among_pushed pairs c.if-len-count.self.pairs.items c.args.pair kept)
