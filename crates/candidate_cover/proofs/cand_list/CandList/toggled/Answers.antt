use Rattle.std.proofs.Common.{sym, subst}
use Rattle.candidate_cover.specs.Marks.{fresh_mark}
use Rattle.candidate_cover.specs.Pairs.{pairs_of, IsInOrder}
use Rattle.candidate_cover.proofs.Toggling.{toggled_is}
use Rattle.candidate_cover.proofs.cand_list.CandList.toggled.Goals as goal

pub of-requires-clause-order : goal.of-requires-clause-order
of-requires-clause-order c = subst IsInOrder (sym c.in_ok-lists.ensures.pairs) (toggled_is (pairs_of c.self.inside.lists.sets.items c.self.inside.lists.uptos.items c.self.inside.lists.helds.items) c.args.sets.now fresh_mark c.self.invariant.1 c.requires).order
