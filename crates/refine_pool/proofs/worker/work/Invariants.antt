use Rattle.std.specs.Prelude.{IfSome}
use Rattle.desk.specs.Desks.{IsAt, WasDrawn}
use Rattle.refine_pool.specs.Crews.{WentOn}
use Rattle.refine_pool.proofs.worker.work.Given as goal

abbrev pub invariant-loop : goal.invariant-loop
invariant-loop g l = record {
  own : IsAt l.desk l.pass.pass;
  on : WentOn l.fn.pass.pass l.pass.pass;
  bench : IfSome l.hand.bench (λ bench. WasDrawn l.desk l.pass.pass bench.job);
}
