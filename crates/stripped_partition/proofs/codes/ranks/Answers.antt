use Rattle.std.proofs.Common.{ℕ, List, get_or, sym, ap, ◌∙◌, subst}
use Rattle.std.specs.List.Sorted.{IsNonDecreasing, IsPermutation}
use Rattle.std.proofs.lemmas.List.Sorted.{IsNonDecreasingBy-from_sort}
use Rattle.stripped_partition.proofs.Coding.{rank_of, rank_sorted, map_next, map_done}
use Rattle.stripped_partition.proofs.codes.ranks.Goals as goal

pub rank-requires-clause-sorted : goal.rank-requires-clause-sorted
rank-requires-clause-sorted c = subst IsNonDecreasing (sym c.deref.ensures.value) (IsNonDecreasingBy-from_sort (λ x. x) c.sort_unstable.new.self.items c.sort_unstable.ensures.sorted)

pub loop-code-preserved : goal.loop-code-preserved
loop-code-preserved c =
    let moved : IsPermutation c.args.codes.now c.sort_unstable.new.self.items = subst (λ (xs : List ℕ). IsPermutation xs c.sort_unstable.new.self.items) c.in_ok-sorted.ensures.items c.sort_unstable.ensures.permutation in
    c.in_ok-push.ensures.items
    ∙ map_next (rank_of c.args.codes.now) c.args.codes.now c.loop-code.ranks.items c.loop-code.code-index c.rank.result c.loop-code-test.true c.loop-code.invariant
    (c.rank.ensures ∙ ap (λ (xs : List ℕ). rank_of xs (get_or c.args.codes.now c.loop-code.code-index 0)) c.deref.ensures.value ∙ rank_sorted c.args.codes.now c.sort_unstable.new.self.items (get_or c.args.codes.now c.loop-code.code-index 0) moved)

pub returns : goal.returns
returns c = map_done (rank_of c.args.codes.now) c.args.codes.now c.loop-code.ranks.items c.loop-code.code-index c.loop-code-test.false c.loop-code.invariant
