use Rattle.candidate_cover.proofs.Flat.{pushed}
use Rattle.candidate_cover.proofs.cand_list.Lists.push.Goals as goal

pub returns-clause-pairs : goal.returns-clause-pairs
returns-clause-pairs c = pushed c.args.self.now.sets.items c.args.self.now.uptos.items c.args.self.now.helds.items c.push.new.self.items c.push-2.new.self.items c.push-3.new.self.items c.args.x c.args.mark c.requires
    c.in_ok-push.ensures.items c.in_ok-push-2.ensures.items c.in_ok-push-3.ensures.items
