use Rattle.std.proofs.Common.{◌∙◌, sym, ap}
use Rattle.candidate_cover.specs.Pairs.{keys}
use Rattle.candidate_cover.proofs.Flat.{keys-pairs}
use Rattle.candidate_cover.proofs.cand_list.CandList.sets.Goals as goal

pub returns-clause-sets : goal.returns-clause-sets
returns-clause-sets c = c.as_slice.ensures.value ∙ sym (keys-pairs c.self.inside.lists.sets.items c.self.inside.lists.uptos.items c.self.inside.lists.helds.items c.self.invariant.0) ∙ ap keys c.self.view_is
