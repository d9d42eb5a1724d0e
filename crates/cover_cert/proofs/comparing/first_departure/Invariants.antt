use Rattle.std.proofs.Common.{◌≡◌, ◌<◌, ◌≤◌, length}
use Rattle.std.specs.List.{All, flat_map}
use Rattle.rel_base.specs.Covers.{least_covers}
use Rattle.cover_cert.specs.Comparing.{claims_of, departs_at, departs_then}
use Rattle.cover_cert.proofs.Gathered.{column_claims}
use Rattle.cover_cert.proofs.comparing.first_departure.Given as goal

abbrev pub decreases-loop-so_far : goal.decreases-loop-so_far
decreases-loop-so_far g l = length l.rest

abbrev pub invariant-loop-so_far : goal.invariant-loop-so_far
invariant-loop-so_far g l = record {
  place : l.so_far.place ≤ length l.claims;
  within : All (λ column. column < l.columns) l.rest;
  told : departs_at l.number (claims_of (least_covers l.columns l.agree_sets)) l.claims ≡ departs_then l.number l.claims l.so_far (flat_map (column_claims l.columns l.agree_sets) l.rest);
}
