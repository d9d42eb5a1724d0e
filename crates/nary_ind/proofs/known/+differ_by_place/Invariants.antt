use Rattle.std.proofs.Common.{length}
use Rattle.nary_ind.proofs.known.+differ_by_place.Given as goal

abbrev pub decreases-differ_by_place : goal.decreases-differ_by_place
decreases-differ_by_place l = length l.columns.now
