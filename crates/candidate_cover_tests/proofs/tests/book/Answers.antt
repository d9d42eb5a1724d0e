use Rattle.std.proofs.Common.{◌+◌, sym, subst, take}
use Rattle.candidate_cover.proofs.Targets.{HasBooked, booked_more}
use Rattle.candidate_cover_tests.proofs.tests.book.Goals as goal

pub loop-z-preserved : goal.loop-z-preserved
loop-z-preserved c = subst (HasBooked c.args.target (take (c.loop-z.z-index + 1) c.args.sets.now) c.args.cover.now) (sym c.put.ensures) (booked_more c.args.target c.args.sets.now c.loop-z.z-index c.z-item.result c.loop-z-test.true c.z-item.is c.args.cover.now c.loop-z.cover c.requires c.loop-z.invariant c.in_ok-new_list.new_list c.in_ok-new_list.ensures)
