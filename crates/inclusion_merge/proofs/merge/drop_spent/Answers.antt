use Rattle.std.proofs.Common.{arith, List, ℕ}
use Rattle.std.specs.Borrow.{Bor}
use Rattle.std.proofs.lemmas.List.{map-set}
use Rattle.inclusion_merge.specs.Sharing.{lists_of}
use Rattle.inclusion_merge.proofs.Places.{length-lists_of}
use Rattle.inclusion_merge.proofs.Spent.{Spent-more}
use Rattle.inclusion_merge.proofs.merge.drop_spent.Goals as goal

pub loop-place-preserved : goal.loop-place-preserved
loop-place-preserved c =
    let now = lists_of c.loop-place.rests in
    let i = c.loop-place.place in
    let rest = c.rest_if_needed.result in
    let long = length-lists_of c.loop-place.rests in
    Spent-more c.args.kept.now (lists_of c.args.rests.now) now i c.loop-place.invariant _ rest.now (omega arith)
    (map-set (λ (slice : Bor (List (List ℕ))). slice.now) c.loop-place.rests i rest)
    c.rest_if_needed.ensures
