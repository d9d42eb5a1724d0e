use Rattle.std.proofs.Common.{◌≡◌, take}
use Rattle.negative_cover.specs.Witnesses.{sets_of}
use Rattle.negative_cover.proofs.negative_cover.NegativeCover.agree_sets.Given as goal

abbrev pub invariant-loop-witness : goal.invariant-loop-witness
invariant-loop-witness l = l.sets.items ≡ sets_of (take l.witness-index l.witness-items)
