use Rattle.std.proofs.Common.{◌≡◌}
use Rattle.rel_base.specs.PackedOps.{place_of, IsCursor}
use Rattle.rel_base_tests.proofs.tests.written.Given as goal

abbrev pub invariant-loop-place : goal.invariant-loop-place
invariant-loop-place l = (IsCursor l.batch l.cursor) × (place_of l.cursor ≡ l._place)
