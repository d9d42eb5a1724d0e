use Rattle.std.proofs.Common.{◌≡◌, ◌≤◌, ◌+◌, ◌++◌, ℕ, List, length, drop}
use Rattle.cover_cert.specs.declared.line.Claim.{Claim}
use Rattle.cover_cert.specs.Comparing.{claims_to, departs_at, departs_then}
use Rattle.cover_cert.proofs.comparing.past.Given as goal

abbrev pub invariant-loop-left : goal.invariant-loop-left
invariant-loop-left l = record {
  place : l.place ≤ length l.claims;
  told : (number : ℕ) (more : List Claim) → departs_then number l.claims l.fn.so_far (claims_to l.target l.fn.lefts ++ more)
      ≡ departs_at (number + l.place) (claims_to l.target (drop l.left-index l.fn.lefts) ++ more) (drop l.place l.claims);
}
