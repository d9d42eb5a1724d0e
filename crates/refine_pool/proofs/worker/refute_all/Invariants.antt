use Rattle.desk.specs.Desks.{IsAt}
use Rattle.refine_pool.specs.Crews.{WentOn}
use Rattle.refine_pool.proofs.worker.refute_all.Given as goal

abbrev pub invariant-loop-pair : goal.invariant-loop-pair
invariant-loop-pair g l = record {
  own : IsAt l.desk l.pass.pass;
  on : WentOn l.fn.pass.pass l.pass.pass;
}
