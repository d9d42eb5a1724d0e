use Rattle.std.proofs.Common.{◌+◌, ◌*◌}
use Rattle.csv_load.proofs.by_threads.+fn-rows_by-join+arg2+fn-rows_by-join+arg3+rows_by.Given as goal

abbrev pub decreases-join+arg2 : goal.decreases-join+arg2
decreases-join+arg2 g l = 2 * l.few + 1

abbrev pub decreases-join+arg3 : goal.decreases-join+arg3
decreases-join+arg3 g l = 2 * l.others + 1

abbrev pub decreases-rows_by : goal.decreases-rows_by
decreases-rows_by g l = 2 * l.workers
