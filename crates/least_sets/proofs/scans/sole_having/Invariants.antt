use Rattle.std.proofs.Common.{◌≡◌, ◌∷◌, [], None, IfSome, take}
use Rattle.least_sets.specs.Growth.{having}
use Rattle.least_sets.proofs.scans.sole_having.Given as goal

abbrev pub invariant-loop-w : goal.invariant-loop-w
invariant-loop-w g l = record {
  none : l.sole ≡ None → having l.column (take l.w-index l.pending) ≡ [];
  some : IfSome l.sole (λ w. having l.column (take l.w-index l.pending) ≡ w ∷ []);
}
