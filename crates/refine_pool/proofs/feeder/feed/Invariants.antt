use Rattle.std.proofs.Common.{◌≡◌, length}
use Rattle.std.specs.Prelude.{vec_capacity}
use Rattle.desk.specs.Desks.{IsAt}
use Rattle.refine_pool.specs.Crews.{IsFed, WentOn}
use Rattle.refine_pool.proofs.feeder.feed.Given as goal

abbrev pub invariant-loop-batch : goal.invariant-loop-batch
invariant-loop-batch g l = record {
  own : IsAt l.desk l.pass.pass;
  on : WentOn l.fn.pass.pass l.pass.pass;
  fed : IsFed l.desk l.pass.pass l.yielded l.replies.items;
  count : length l.replies.items ≡ length l.yielded;
  room : vec_capacity l.replies ≡ vec_capacity l.fn.replies;
}
