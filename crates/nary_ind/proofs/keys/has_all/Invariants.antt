use Rattle.std.proofs.Common.{ℕ, ◌<◌, get_or}
use Rattle.col_set.specs.Listing.{Listed}
use Rattle.nary_ind.proofs.keys.has_all.Given as goal

abbrev pub invariant-loop-place : goal.invariant-loop-place
invariant-loop-place l = (k : ℕ) → k < l.place → Listed (get_or l.keys k 0) l.found
