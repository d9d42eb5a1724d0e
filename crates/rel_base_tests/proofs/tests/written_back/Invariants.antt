use Rattle.rel_base.specs.PackedOps.{place_of, IsCursor}
use Rattle.rel_base_tests.proofs.tests.written_back.Given as goal

abbrev pub invariant-loop-cursor : goal.invariant-loop-cursor
invariant-loop-cursor l = IsCursor l.batch l.cursor

abbrev pub decreases-loop-cursor : goal.decreases-loop-cursor
decreases-loop-cursor l = place_of l.cursor
