use Rattle.std.proofs.Common.{◌∙◌, ap}
use Rattle.candidate_cover.specs.Cands.{all_free}
use Rattle.candidate_cover.specs.Marks.{cands}
use Rattle.candidate_cover.proofs.Flat.{pairs-free, even-free, flat_order, flat_rises}
use Rattle.candidate_cover.proofs.cand_list.CandList.free.Goals as goal

pub invariant_of-self : goal.invariant_of-self
invariant_of-self c =
    let even = even-free c.self.inside.lists.sets.items c.self.inside.lists.uptos.items c.self.inside.lists.helds.items c.free_all.new.helds.items c.free_all.ensures c.self.invariant.0 in
    (even, flat_order c.self.inside.lists.sets.items c.self.inside.lists.uptos.items c.free_all.new.helds.items even (flat_rises c.self.inside.lists.sets.items c.self.inside.lists.uptos.items c.self.inside.lists.helds.items c.self.invariant.0 c.self.invariant.1))

pub returns : goal.returns
returns c = pairs-free c.self.inside.lists.sets.items c.self.inside.lists.uptos.items c.self.inside.lists.helds.items c.free_all.new.helds.items c.free_all.ensures ∙ ap (λ ps. all_free (cands ps)) c.self.view_is
