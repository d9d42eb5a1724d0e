use Rattle.std.proofs.Common.{◌≡◌, take}
use Rattle.negative_cover.specs.Witnesses.{sets_of, live_of, dead_of}
use Rattle.negative_cover.proofs.negative_cover.NegativeCover.withdrawal.Given as goal

abbrev pub invariant-loop-witness : goal.invariant-loop-witness
invariant-loop-witness l = record {
  rest : l.rest.items ≡ sets_of (live_of l.dead (take l.witness-index l.witness-items));
  gone : l.gone.items ≡ sets_of (dead_of l.dead (take l.witness-index l.witness-items));
}
