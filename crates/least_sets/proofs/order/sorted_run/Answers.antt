use Rattle.std.proofs.Common.{◌∙◌, ◌++◌, ℕ, List, IsPermutation, ap, subst, rules}
use Rattle.std.proofs.lemmas.List.Sorted.{answers_always}
use Rattle.std.specs.Ordering.{is_lt}
use Rattle.least_sets.specs.BySize.{first_cmp}
use Rattle.least_sets.proofs.Sorting.{sorted_members}
use Rattle.least_sets.proofs.Firsts.{first_ranks, run_order}
use Rattle.least_sets.proofs.order.sorted_run.Goals as goal

moved : (c : goal.After-dedup) → IsPermutation c.args.sets.now c.sort_unstable_by.new.self.items
moved c = subst (λ (xs : List ℕ). IsPermutation xs c.sort_unstable_by.new.self.items) (c.in_ok-extend_from_slice.ensures.items ∙ ap (λ (xs : List ℕ). xs ++ c.args.sets.now) c.in_ok-made.ensures.items) c.sort_unstable_by.ensures.permutation

pub returns-clause-order : goal.returns-clause-order
returns-clause-order c = λ n a.
    run_order n c.args.sets.now c.sort_unstable_by.new.self.items c.dedup.new.self.items (moved c)
    (c.sort_unstable_by.ensures.sorted (λ x y. is_lt (first_cmp x y)) first_ranks (answers_always _ _ _ (λ f b r h i. search rules))) c.dedup.ensures.filtered a

pub returns-clause-members : goal.returns-clause-members
returns-clause-members c = sorted_members c.args.sets.now c.sort_unstable_by.new.self.items c.dedup.new.self.items (moved c) c.dedup.ensures.filtered
