use Rattle.std.proofs.Common.{◌∙◌, ap}
use Rattle.candidate_cover.specs.AllMarked.{all_marked}
use Rattle.candidate_cover.specs.Marks.{cands}
use Rattle.candidate_cover.proofs.Flat.{pairs-marked, even-marked, flat_order, flat_rises}
use Rattle.candidate_cover.proofs.cand_list.CandList.mark_all.Goals as goal

pub invariant_of-self : goal.invariant_of-self
invariant_of-self c =
    let even = even-marked c.self.inside.lists.sets.items c.self.inside.lists.uptos.items c.raise_all.new.uptos.items c.self.inside.lists.helds.items c.free_all.new.helds.items c.args.to c.free_all.ensures c.raise_all.ensures c.self.invariant.0 in
    (even, flat_order c.self.inside.lists.sets.items c.raise_all.new.uptos.items c.free_all.new.helds.items even (flat_rises c.self.inside.lists.sets.items c.self.inside.lists.uptos.items c.self.inside.lists.helds.items c.self.invariant.0 c.self.invariant.1))

pub returns : goal.returns
returns c = pairs-marked c.self.inside.lists.sets.items c.self.inside.lists.uptos.items c.raise_all.new.uptos.items c.self.inside.lists.helds.items c.free_all.new.helds.items c.args.to c.free_all.ensures c.raise_all.ensures ∙ ap (λ ps. all_marked c.args.to (cands ps)) c.self.view_is
