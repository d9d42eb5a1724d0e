use Rattle.std.proofs.Common.{◌≡◌, ◌≤◌, ◌++◌, ℕ, List, Vec, Global, length, drop, map}
use Rattle.cover_cert.specs.declared.line.Claim.{Claim}
use Rattle.cover_cert.specs.Comparing.{claims_beside, departs_then}
use Rattle.cover_cert.proofs.comparing.past_lists.Given as goal

abbrev pub invariant-loop-place : goal.invariant-loop-place
invariant-loop-place l = record {
  place : l.next.place ≤ length l.claims;
  told : (number : ℕ) (more : List Claim) → departs_then number l.claims l.fn.so_far (claims_beside l.some (map (λ (list : Vec ℕ Global). list.items) l.lists) ++ more)
      ≡ departs_then number l.claims l.next (claims_beside (drop l.place l.some) (drop l.place (map (λ (list : Vec ℕ Global). list.items) l.lists)) ++ more);
}
