use Rattle.std.proofs.Common.{◌+◌, ◌-◌, ◌*◌, length}
use Rattle.cover_core.proofs.judging.+halves.Given as goal

abbrev pub decreases-judged_by : goal.decreases-judged_by
decreases-judged_by g l = 3 * length l.stores.now

abbrev pub decreases-both_halves : goal.decreases-both_halves
decreases-both_halves g l = 3 * (length l.few.now + length l.others.now) - 1

abbrev pub decreases-both_halves-first : goal.decreases-both_halves-first
decreases-both_halves-first g l = 3 * length l.few.now + 1

abbrev pub decreases-both_halves-second : goal.decreases-both_halves-second
decreases-both_halves-second g l = 3 * length l.others.now + 1
