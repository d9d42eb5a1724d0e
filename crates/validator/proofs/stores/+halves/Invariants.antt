use Rattle.std.proofs.Common.{◌+◌, ◌-◌, ◌*◌, length}
use Rattle.validator.proofs.stores.+halves.Given as goal

abbrev pub decreases-levelled_by : goal.decreases-levelled_by
decreases-levelled_by g l = 3 * length l.others.now

abbrev pub decreases-both_levelled : goal.decreases-both_levelled
decreases-both_levelled g l = 3 * (length l.few.now + length l.others.now) - 1

abbrev pub decreases-both_levelled-first : goal.decreases-both_levelled-first
decreases-both_levelled-first g l = 3 * length l.few.now + 1

abbrev pub decreases-both_levelled-second : goal.decreases-both_levelled-second
decreases-both_levelled-second g l = 3 * length l.others.now + 1
