use Rattle.std.proofs.Common.{◌+◌, ◌∷◌, []}
use Rattle.negative_cover.specs.FoundPairs.{AreSeen, HasCompared}
use Rattle.negative_cover.proofs.pairing.add_pairs.Given as goal

abbrev pub invariant-loop-k : goal.invariant-loop-k
invariant-loop-k l = record {
  seen : AreSeen l.found;
  compared : HasCompared l.snapshot l.fn.first (l.fn.first + l.k) (l.fn.other ∷ []) l.initial.found.pairs.items l.found.pairs.items;
}
