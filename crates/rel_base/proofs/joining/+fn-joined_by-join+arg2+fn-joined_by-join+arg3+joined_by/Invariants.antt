use Rattle.std.proofs.Common.{◌+◌, ◌*◌}
use Rattle.rel_base.proofs.joining.+fn-joined_by-join+arg2+fn-joined_by-join+arg3+joined_by.Given as goal

abbrev pub decreases-join+arg2 : goal.decreases-join+arg2
decreases-join+arg2 g l = 2 * l.few + 1

abbrev pub decreases-join+arg3 : goal.decreases-join+arg3
decreases-join+arg3 g l = 2 * l.rest + 1

abbrev pub decreases-joined_by : goal.decreases-joined_by
decreases-joined_by g l = 2 * l.workers
