use Rattle.std.proofs.Common.{◌≤◌}
use Rattle.std.specs.Prelude.{length}
use Rattle.least_sets.proofs.Branches.{CoversWithRest}
use Rattle.least_sets.proofs.outermost.outermost_of_filed.Given as goal

abbrev pub invariant-loop-place : goal.invariant-loop-place
invariant-loop-place l = CoversWithRest l.columns l.agree_sets l.place l.kept.items × (l.place ≤ l.end) × (l.end ≤ length l.agree_sets)
