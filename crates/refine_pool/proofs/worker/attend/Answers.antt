use Rattle.refine_pool.proofs.Passing.{turn_went}
use Rattle.refine_pool.proofs.Working.{bench_drawn}
use Rattle.refine_pool.proofs.worker.attend.Goals as goal

pub returns-in-Ok-clause-bench : goal.returns-in-Ok-clause-bench
returns-in-Ok-clause-bench g c = bench_drawn c.args.desk.now c.args.pass.now.pass c.book-booked.new.pass.pass c.args.job c.args.hand.now.bench c.judge.new.hand.bench c.requires.drawn c.requires.bench c.judge.ensures.bench c.book-booked.ensures.on

pub returns-in-Err-clause-bench : goal.returns-in-Err-clause-bench
returns-in-Err-clause-bench g c = bench_drawn c.args.desk.now c.args.pass.now.pass c.release.new.pass.pass c.args.job c.args.hand.now.bench c.judge.new.hand.bench c.requires.drawn c.requires.bench c.judge.ensures.bench (turn_went c.args.desk.now c.args.pass.now.pass c.release.new.pass.pass _ _ c.release.ensures.turned)
