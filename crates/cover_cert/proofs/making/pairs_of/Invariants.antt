use Rattle.std.proofs.Common.{◌≡◌, map, take}
use Rattle.cover_cert.specs.Evidence.{ordered}
use Rattle.cover_cert.proofs.making.pairs_of.Given as goal

abbrev pub invariant-loop-witness : goal.invariant-loop-witness
invariant-loop-witness l = l.pairs.items ≡ map ordered (take l.witness-index l.witnesses)
