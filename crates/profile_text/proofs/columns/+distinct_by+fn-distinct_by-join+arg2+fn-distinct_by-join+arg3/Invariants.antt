use Rattle.std.proofs.Common.{◌+◌, ◌*◌}
use Rattle.profile_text.proofs.columns.+distinct_by+fn-distinct_by-join+arg2+fn-distinct_by-join+arg3.Given as goal

abbrev pub decreases-join+arg2 : goal.decreases-join+arg2
decreases-join+arg2 g l = 2 * l.few + 1

abbrev pub decreases-join+arg3 : goal.decreases-join+arg3
decreases-join+arg3 g l = 2 * l.others + 1

abbrev pub decreases-distinct_by : goal.decreases-distinct_by
decreases-distinct_by g l = 2 * l.workers
