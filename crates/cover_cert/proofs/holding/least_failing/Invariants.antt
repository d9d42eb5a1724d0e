use Rattle.std.proofs.Common.{◌≡◌, ◌<◌, ◌≤◌, ℕ, length, get_or}
use Rattle.cover_cert.specs.Holding.{HoldsAt, FailsAt}
use Rattle.cover_cert.proofs.holding.least_failing.Given as goal

abbrev pub invariant-loop-visit : goal.invariant-loop-visit
invariant-loop-visit l = record {
  path : l.path.table ≡ l.snapshot;
  bound : l.least ≤ length l.claims;
  fails : FailsAt l.snapshot l.claims l.least;
  seen : (k : ℕ) (d : ℕ × ℕ) → k < l.visit-index → (let place : ℕ = (get_or l.visits k d).1 in place < l.least → HoldsAt l.snapshot l.claims place);
}
