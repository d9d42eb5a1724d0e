use Rattle.std.proofs.Common.{◌+◌, ◌*◌}
use Rattle.cover_core.proofs.sought.+fn-sought_by-join+arg2+fn-sought_by-join+arg3+sought_by.Given as goal

abbrev pub decreases-join+arg2 : goal.decreases-join+arg2
decreases-join+arg2 g l = 2 * l.few + 1

abbrev pub decreases-join+arg3 : goal.decreases-join+arg3
decreases-join+arg3 g l = 2 * l.others + 1

abbrev pub decreases-sought_by : goal.decreases-sought_by
decreases-sought_by g l = 2 * l.workers
