use Rattle.std.proofs.Common.{take}
use Rattle.negative_cover.specs.FoundPairs.{AreSeen, HasCompared}
use Rattle.negative_cover.proofs.pairing.push_pairs.Given as goal

abbrev pub invariant-loop-place : goal.invariant-loop-place
invariant-loop-place l = record {
  seen : AreSeen l.found;
  compared : HasCompared l.snapshot l.fn.first l.fn.end (take l.place l.late) l.initial.found.pairs.items l.found.pairs.items;
}
