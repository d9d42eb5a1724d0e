use Rattle.std.proofs.Common.{take}
use Rattle.negative_cover.specs.Witnesses.{sets_of}
use Rattle.negative_cover.specs.Concerning.{AreConcerned}
use Rattle.negative_cover.proofs.concerned.Concerned.by.Given as goal

abbrev pub invariant-loop-witness : goal.invariant-loop-witness
invariant-loop-witness l = AreConcerned l.columns (sets_of (take l.witness-index l.witness-items)) l.agree l.concerned
