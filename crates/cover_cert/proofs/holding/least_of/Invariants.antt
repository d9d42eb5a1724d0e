use Rattle.std.proofs.Common.{◌≡◌, ◌⊎◌, ◌<◌, ◌≤◌, ℕ, get_or}
use Rattle.col_set.specs.Lists.{Listed}
use Rattle.cover_cert.proofs.holding.least_of.Given as goal

abbrev pub invariant-loop-place : goal.invariant-loop-place
invariant-loop-place l = record {
  bound : l.least ≤ l.bound;
  below : (k d : ℕ) → k < l.place-index → l.least ≤ get_or l.places k d;
  found : (l.least ≡ l.bound) ⊎ Listed l.least l.places;
}
