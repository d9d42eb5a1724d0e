use Rattle.std.proofs.Common.{◌≤◌, ◌∙◌, length, sym, subst, rules}
use Rattle.candidate_cover.specs.Pairs.{IsInOrder}
use Rattle.candidate_cover.proofs.Flat.{copied_whole}
use Rattle.candidate_cover.proofs.cand_list.CandList.copy.Goals as goal

pub of-requires-clause-order : goal.of-requires-clause-order
of-requires-clause-order c =
    let m : length c.self.inside.lists.sets.items ≤ c.len-count.result = search rules in
    subst IsInOrder (sym (c.in_ok-push_run.ensures.pairs ∙ copied_whole c.self.inside.lists.sets.items c.self.inside.lists.uptos.items c.self.inside.lists.helds.items c.in_ok-lists.lists.sets.items c.in_ok-lists.lists.uptos.items c.in_ok-lists.lists.helds.items c.len-count.result c.self.invariant.0 m c.in_ok-lists.ensures.none)) c.self.invariant.1

pub returns-clause-same : goal.returns-clause-same
returns-clause-same c =
    let m : length c.self.inside.lists.sets.items ≤ c.len-count.result = search rules in
    c.of.ensures ∙ c.in_ok-push_run.ensures.pairs ∙ copied_whole c.self.inside.lists.sets.items c.self.inside.lists.uptos.items c.self.inside.lists.helds.items c.in_ok-lists.lists.sets.items c.in_ok-lists.lists.uptos.items c.in_ok-lists.lists.helds.items c.len-count.result c.self.invariant.0 m c.in_ok-lists.ensures.none ∙ c.self.view_is

pub returns-clause-order : goal.returns-clause-order
returns-clause-order c = subst IsInOrder c.self.view_is c.self.invariant.1
