use Rattle.std.proofs.Common.{length}
use Rattle.approx_fd_tests.proofs.plain.+most_kept.Given as goal

abbrev pub decreases-most_kept : goal.decreases-most_kept
decreases-most_kept l = length l.rest.now
