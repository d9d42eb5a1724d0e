use Rattle.std.proofs.Common.{take}
use Rattle.candidate_cover.proofs.Targets.{HasBooked}
use Rattle.candidate_cover_tests.proofs.tests.book.Given as goal

abbrev pub invariant-loop-z : goal.invariant-loop-z
invariant-loop-z l = HasBooked l.target (take l.z-index l.sets) l.fn.cover l.cover
