use Rattle.std.proofs.Common.{◌≤◌, subst, arith}
use Rattle.validator.specs.Verdicts.{new_rows}
use Rattle.cover_steps.specs.Steps as steps
use Rattle.cover_steps.specs.Sound.{Fits}
use Rattle.cover_core.specs.Replies.{reply_of_draw, IfJob}
use Rattle.cover_core.specs.declared.answers.Draw.{Draw}
use Rattle.cover_core.proofs.Booking.{IsFitting-fits}
use Rattle.cover_core.proofs.NearBooks.{drawn-near, drawn-few}
use Rattle.cover_core.proofs.tests.new_rows.judge_next.Goals as goal

pub validate-requires : goal.validate-requires
validate-requires g c = IsFitting-fits c.draw.new.self.rows c.in-Job.job (subst (λ (d : Draw). IfJob d (Fits c.draw.new.self.rows)) c.in-Job.is c.in_ok-last.ensures.drawn)

pub returns-in_err-verdict-in-Job-clause-near : goal.returns-in_err-verdict-in-Job-clause-near
returns-in_err-verdict-in-Job-clause-near g c = drawn-near c.args.book.now c.rows-rows.ensures.sound c.requires c.in_ok-last.last c.draw.new.self c.in_ok-last.ensures.step

pub returns-in_err-push-in-Job-clause-near : goal.returns-in_err-push-in-Job-clause-near
returns-in_err-push-in-Job-clause-near g c = drawn-near c.args.book.now c.rows-rows.ensures.sound c.requires c.in_ok-last.last c.draw.new.self c.in_ok-last.ensures.step

pub returns-in_ok-push-in-Job-clause-near : goal.returns-in_ok-push-in-Job-clause-near
returns-in_ok-push-in-Job-clause-near g c = drawn-near c.args.book.now c.rows-rows.ensures.sound c.requires c.in_ok-last.last c.draw.new.self c.in_ok-last.ensures.step

pub returns-in_ok-push-in-Job-clause-steps : goal.returns-in_ok-push-in-Job-clause-steps
returns-in_ok-push-in-Job-clause-steps g c =
    let few : new_rows c.in-Job.job.snapshot c.in-Job.job.from ≤ 1 = drawn-few c.args.book.now c.rows-rows.ensures.sound c.requires c.in-Job.job c.draw.new.self
    (subst (λ (d : Draw). steps.IsDrawing c.args.book.now (reply_of_draw d) c.draw.new.self) c.in-Job.is c.in_ok-last.ensures.step) in
    let taken = c.validate.ensures.steps in
    let more = c.in_ok-push-in-Job.ensures.len in
    omega arith
