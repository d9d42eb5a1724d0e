use Rattle.std.proofs.Common.{take}
use Rattle.least_sets.proofs.Drafting.{KnownSoFar}
use Rattle.least_sets.proofs.filing.known_by.Given as goal

abbrev pub invariant-loop-w : goal.invariant-loop-w
invariant-loop-w l = KnownSoFar l.columns (take l.w-index l.agree_sets) l.z l.known.row_id l.known.columns
