use Rattle.std.proofs.Common.{◌≡◌, ◌⊎◌, ◌<◌, ◌≤◌, ℕ, List, arith, length, get_or, subst}
use Rattle.col_set.specs.Lists.{Listed}
use Rattle.cover_cert.proofs.Visits.{least-of-all}
use Rattle.cover_cert.proofs.holding.least_failing_by.Goals as goal

pub returns : goal.returns
returns g c =
    let least = c.least_of.result in
    let some : 0 < c.max-stretch.result = let m = c.max-stretch.ensures in omega arith in
    least-of-all c.args.snapshot.now c.args.claims.now c.args.visits.now c.max-stretch.result c.in_ok-places.places.items least some c.requires.visits
    c.in_ok-places.ensures c.least_of.ensures.bound
    (subst (λ (ps : List ℕ). (k d : ℕ) → k < length ps → least ≤ get_or ps k d) c.as_slice.ensures.value c.least_of.ensures.least)
    (subst (λ (ps : List ℕ). (least ≡ length c.args.claims.now) ⊎ Listed least ps) c.as_slice.ensures.value c.least_of.ensures.found)
