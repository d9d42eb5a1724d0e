use Rattle.std.proofs.Common.{◌≡◌}
use Rattle.candidate_cover_tests.proofs.tests.draft_of.Given as goal

abbrev pub invariant-loop-z : goal.invariant-loop-z
invariant-loop-z l = l.draft.width ≡ l.columns
