use Rattle.std.proofs.Common.{◌+◌, ◌*◌}
use Rattle.cover_core.proofs.sought.+fn-listed_by-join+arg2+fn-listed_by-join+arg3+listed_by.Given as goal

abbrev pub decreases-join+arg2 : goal.decreases-join+arg2
decreases-join+arg2 g l = 2 * l.few + 1

abbrev pub decreases-join+arg3 : goal.decreases-join+arg3
decreases-join+arg3 g l = 2 * l.others + 1

abbrev pub decreases-listed_by : goal.decreases-listed_by
decreases-listed_by g l = 2 * l.workers
