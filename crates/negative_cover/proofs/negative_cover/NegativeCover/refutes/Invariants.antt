use Rattle.std.proofs.Common.{◌≡◌, false, take}
use Rattle.std.specs.List.{list_any}
use Rattle.negative_cover.proofs.Telling.{tells}
use Rattle.negative_cover.proofs.negative_cover.NegativeCover.refutes.Given as goal

abbrev pub invariant-loop-witness : goal.invariant-loop-witness
invariant-loop-witness l = list_any (tells l.target l.x) (take l.witness-index l.witness-items) ≡ false
