use Rattle.nary_ind.specs.Levels.{grown, is_candidate}
use Rattle.nary_ind.proofs.Widening.{filter-flat-more, member-at}
use Rattle.nary_ind.proofs.level.candidates_of.Goals as goal

pub push_candidates-requires-clause-list : goal.push_candidates-requires-clause-list
push_candidates-requires-clause-list c = c.requires.into c.list-item.result (member-at c.args.into.now c.loop-list.list-index c.list-item.result c.loop-list-test.true c.list-item.is)

pub loop-list-preserved : goal.loop-list-preserved
loop-list-preserved c =
    filter-flat-more (is_candidate c.args.known.now c.args.side.now) (grown c.args.known.now) c.args.into.now c.loop-list.list-index c.list-item.result c.loop-list.found.items c.push_candidates.new.found.items c.loop-list-test.true c.list-item.is
    c.loop-list.invariant c.in_ok-push_candidates.ensures
