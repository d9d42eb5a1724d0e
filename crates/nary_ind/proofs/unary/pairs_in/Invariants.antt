use Rattle.std.proofs.Common.{◌≡◌, ℕ, take}
use Rattle.nary_ind.specs.Unary.{has_pair}
use Rattle.nary_ind.proofs.unary.pairs_in.Given as goal

abbrev pub invariant-loop-place : goal.invariant-loop-place
invariant-loop-place l = (c d : ℕ) → has_pair l.pairs.keys c d ≡ has_pair (take l.place l.found) c d
