use Rattle.std.proofs.Common.{refl, subst}
use Rattle.cover_core.specs.declared.answers.Draw.{Draw}
use Rattle.cover_steps.specs.declared.step.Call.TheVariants as calls
use Rattle.desk.specs.declared.turns.Reply.TheVariants.{Drawn}
use Rattle.cover_core.specs.Replies.{IfJob}
use Rattle.desk.specs.Desks.{TookTurn, TellsRows, WasDrawn}
use Rattle.refine_pool.proofs.Passing.{draw_settles, turn_went}
use Rattle.refine_pool.proofs.Working.{all_known_right, bench_stays}
use Rattle.refine_pool.proofs.worker.draw.Goals as goal

pub returns-in_err-look_around-in-Busy-clause-bench : goal.returns-in_err-look_around-in-Busy-clause-bench
returns-in_err-look_around-in-Busy-clause-bench g c =
    bench_stays c.args.desk.now c.draw.new.pass.pass c.look_around.new.pass.pass c.args.hand.now.bench c.look_around.new.hand.bench
    (bench_stays c.args.desk.now c.args.pass.now.pass c.draw.new.pass.pass c.args.hand.now.bench c.args.hand.now.bench c.requires.bench refl (turn_went c.args.desk.now c.args.pass.now.pass c.draw.new.pass.pass _ _ c.draw.ensures.turned))
    c.look_around.ensures.bench c.look_around.ensures.on

pub returns-in_ok-look_around-in-Busy-clause-bench : goal.returns-in_ok-look_around-in-Busy-clause-bench
returns-in_ok-look_around-in-Busy-clause-bench g c =
    bench_stays c.args.desk.now c.draw.new.pass.pass c.look_around.new.pass.pass c.args.hand.now.bench c.look_around.new.hand.bench
    (bench_stays c.args.desk.now c.args.pass.now.pass c.draw.new.pass.pass c.args.hand.now.bench c.args.hand.now.bench c.requires.bench refl (turn_went c.args.desk.now c.args.pass.now.pass c.draw.new.pass.pass _ _ c.draw.ensures.turned))
    c.look_around.ensures.bench c.look_around.ensures.on

pub returns-in-Settled-clause-settled : goal.returns-in-Settled-clause-settled
returns-in-Settled-clause-settled g c = draw_settles c.args.desk.now c.args.pass.now.pass c.draw.new.pass.pass (subst (λ (d : Draw). TookTurn c.args.desk.now c.args.pass.now.pass calls.Draw (Drawn d) c.draw.new.pass.pass) c.in-Settled.is c.in_ok-job.ensures.turned)

pub attend-requires-clause-known : goal.attend-requires-clause-known
attend-requires-clause-known g c =
    all_known_right c.args.desk.now c.args.pass.now.pass c.draw.new.pass.pass c.in-Job.job c.args.known c.requires.own.sound
    (subst (λ (d : Draw). IfJob d (TellsRows c.args.desk.now c.args.pass.now.pass)) c.in-Job.is c.in_ok-job.ensures.rows)
    (subst (λ (d : Draw). IfJob d (WasDrawn c.args.desk.now c.draw.new.pass.pass)) c.in-Job.is c.in_ok-job.ensures.job)
    c.requires.known
