use Rattle.std.proofs.Common.{◌+◌, ◌*◌}
use Rattle.cover_steps.proofs.new_lists.+drafted_beside+fn-drafted_beside-join+arg2+fn-drafted_beside-join+arg3.Given as goal

abbrev pub decreases-join+arg2 : goal.decreases-join+arg2
decreases-join+arg2 g l = 2 * l.few + 1

abbrev pub decreases-join+arg3 : goal.decreases-join+arg3
decreases-join+arg3 g l = 2 * l.others + 1

abbrev pub decreases-drafted_beside : goal.decreases-drafted_beside
decreases-drafted_beside g l = 2 * l.workers
