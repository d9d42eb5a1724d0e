use Rattle.sampler.specs.Agreeing.{IsNear}
use Rattle.sampler.proofs.Together.{all_with}
use Rattle.sampler.proofs.sampling.sampled.Goals as goal

pub loop-column-preserved : goal.loop-column-preserved
loop-column-preserved c = all_with (IsNear c.args.rows.now c.args.snapshot.now) c.loop-column.all.items c.in_ok-found.found.items c.append.new.self.items c.in_ok-append.ensures.items c.loop-column.invariant c.in_ok-found.ensures
