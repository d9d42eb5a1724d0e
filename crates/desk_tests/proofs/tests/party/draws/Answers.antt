use Rattle.std.proofs.Common.{subst, sym}
use Rattle.cover_core.specs.declared.answers.Draw.{Draw}
use Rattle.cover_core.specs.Replies.{IfJob}
use Rattle.desk.specs.Desks.{WasDrawn}
use Rattle.desk_tests.specs.Tests.{AreReady}
use Rattle.desk_tests.proofs.Ready.{ready_turn, ready_push}
use Rattle.desk_tests.proofs.tests.party.draws.Goals as goal

pub returns-in_ok-push-in-Job : goal.returns-in_ok-push-in-Job
returns-in_ok-push-in-Job g c = subst (AreReady c.args.desk.now c.args.party.now.feeder.pass c.draw_again.new.worker.pass c.args.party.now.left) (sym c.in_ok-push-in-Job.ensures.items)
    (ready_push c.args.desk.now _ _ _ _ c.in-Job.job
    (ready_turn c.args.desk.now _ _ _ _ _ c.requires c.draw_again.ensures.own c.draw_again.ensures.drawn)
    (subst (λ (d : Draw). IfJob d (WasDrawn c.args.desk.now c.draw_again.new.worker.pass)) c.in-Job.is c.in_ok-job.ensures.job))

pub returns-in_default : goal.returns-in_default
returns-in_default g c = ready_turn c.args.desk.now _ _ _ _ _ c.requires c.draw_again.ensures.own c.draw_again.ensures.drawn
