use Rattle.refine_pool.proofs.Left.{those_after, witnesses_whole, witnesses_so_far}
use Rattle.refine_pool.proofs.refining.phase.Goals as goal

pub returns-then-are_fed_first-clause-witnesses : goal.returns-then-are_fed_first-clause-witnesses
returns-then-are_fed_first-clause-witnesses g c = witnesses_whole c.args.book c.in_ok-fed.fed.book c.args.batches.items c.in_ok-fed.fed.replies.items c.in_ok-fed.ensures.left c.refine_after.result c.refine_after.ensures.whole

pub returns-then-are_fed_first-clause-still_witnesses : goal.returns-then-are_fed_first-clause-still_witnesses
returns-then-are_fed_first-clause-still_witnesses g c = witnesses_so_far c.args.book c.in_ok-fed.fed.book c.args.batches.items c.in_ok-fed.fed.replies.items c.in_ok-fed.ensures.left c.refine_after.result c.refine_after.ensures.so_far

pub returns-then-are_fed_first-clause-so_far : goal.returns-then-are_fed_first-clause-so_far
returns-then-are_fed_first-clause-so_far g c = those_after c.args.book c.in_ok-fed.fed.book c.args.batches.items c.in_ok-fed.fed.replies c.in_ok-fed.ensures.left c.refine_after.result c.refine_after.ensures.so_far c.refine_after.ensures.same
