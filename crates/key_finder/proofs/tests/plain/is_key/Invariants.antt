use Rattle.key_finder.proofs.PlainTests.{Trying}
use Rattle.key_finder.proofs.tests.plain.is_key.Given as goal

abbrev pub invariant-loop-column : goal.invariant-loop-column
invariant-loop-column l = Trying l.agree_sets l.columns l.x l.left

abbrev pub decreases-loop-column : goal.decreases-loop-column
decreases-loop-column l = l.left
