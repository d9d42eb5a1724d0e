use Rattle.std.proofs.Common.{IsPermutation, ◌≡◌, ◌∙◌, ◌++◌, ap, ap₂, subst, ℕ}
use Rattle.set_tree.specs.Pairs.{IsInOrder}
use Rattle.col_set.specs.Lists.{Rises-filter}
use Rattle.col_set.specs.ColSet.{report_cmp, all, subset}
use Rattle.col_set.specs.declared.col_set.TheConstants.{MOST_COLUMNS}
use Rattle.set_tree.specs.Walks.{listed, values, read}
use Rattle.set_tree.proofs.Spots.{tree_reads}
use Rattle.set_tree.proofs.Listing.{listed_rise, listed_whole}
use Rattle.set_tree.proofs.Apart.{met, met_apart, met_only, met_every, sorted_is}
use Rattle.set_tree.specs.Pairs.{inside}
use Rattle.set_tree.specs.Walks.{walk, entry}
use Rattle.set_tree.proofs.Whole.{values_narrow}
use Rattle.std.proofs.Common.{rules}
use Rattle.std.proofs.lemmas.List.Sorted.{answers_always}
use Rattle.set_tree.proofs.set_tree.SetTree.subsets_of.Goals as goal

pub returns-in_err-push_entry-clause-whole : goal.returns-in_err-push_entry-clause-whole
returns-in_err-push_entry-clause-whole g c = subst (λ ps. inside ps (all MOST_COLUMNS) ≡ ps) c.self.view_is (listed_whole (values c.self.inside.of_empty (read MOST_COLUMNS c.self.inside.nodes.list.items c.self.inside.first)) (values_narrow c.self.inside.of_empty (read MOST_COLUMNS c.self.inside.nodes.list.items c.self.inside.first) c.self.invariant.ascends))

pub returns-in_err-push_entry-clause-order : goal.returns-in_err-push_entry-clause-order
returns-in_err-push_entry-clause-order g c = subst IsInOrder c.self.view_is (listed_rise (values c.self.inside.of_empty (read MOST_COLUMNS c.self.inside.nodes.list.items c.self.inside.first)))

pub returns-in_err-push_inside-clause-whole : goal.returns-in_err-push_inside-clause-whole
returns-in_err-push_inside-clause-whole g c = subst (λ ps. inside ps (all MOST_COLUMNS) ≡ ps) c.self.view_is (listed_whole (values c.self.inside.of_empty (read MOST_COLUMNS c.self.inside.nodes.list.items c.self.inside.first)) (values_narrow c.self.inside.of_empty (read MOST_COLUMNS c.self.inside.nodes.list.items c.self.inside.first) c.self.invariant.ascends))

pub returns-in_err-push_inside-clause-order : goal.returns-in_err-push_inside-clause-order
returns-in_err-push_inside-clause-order g c = subst IsInOrder c.self.view_is (listed_rise (values c.self.inside.of_empty (read MOST_COLUMNS c.self.inside.nodes.list.items c.self.inside.first)))

pub returns-clause-whole : goal.returns-clause-whole
returns-clause-whole g c = subst (λ ps. inside ps (all MOST_COLUMNS) ≡ ps) c.self.view_is (listed_whole (values c.self.inside.of_empty (read MOST_COLUMNS c.self.inside.nodes.list.items c.self.inside.first)) (values_narrow c.self.inside.of_empty (read MOST_COLUMNS c.self.inside.nodes.list.items c.self.inside.first) c.self.invariant.ascends))

pub returns-clause-order : goal.returns-clause-order
returns-clause-order g c = subst IsInOrder c.self.view_is (listed_rise (values c.self.inside.of_empty (read MOST_COLUMNS c.self.inside.nodes.list.items c.self.inside.first)))

pub returns-clause-pairs : goal.returns-clause-pairs
returns-clause-pairs g c =
    sorted_is (met c.self.inside.of_empty (read MOST_COLUMNS c.self.inside.nodes.list.items c.self.inside.first) c.args.z c.self.invariant.ascends) c.sort_unstable_by_key.new.self.items (inside (listed (values c.self.inside.of_empty (read MOST_COLUMNS c.self.inside.nodes.list.items c.self.inside.first))) c.args.z) (met_apart c.self.inside.of_empty (read MOST_COLUMNS c.self.inside.nodes.list.items c.self.inside.first) c.args.z c.self.invariant.ascends)
    (subst (λ ps. IsPermutation ps c.sort_unstable_by_key.new.self.items) all_met c.sort_unstable_by_key.ensures.permutation)
    (c.sort_unstable_by_key.ensures.sorted (λ p. p.0) (answers_always _ _ _ (λ f a r h i. search rules)))
    (Rises-filter (λ p q. report_cmp p.0 q.0) (λ p. subset p.0 c.args.z) (listed (values c.self.inside.of_empty (read MOST_COLUMNS c.self.inside.nodes.list.items c.self.inside.first))) (listed_rise (values c.self.inside.of_empty (read MOST_COLUMNS c.self.inside.nodes.list.items c.self.inside.first))))
    (met_only c.self.inside.of_empty (read MOST_COLUMNS c.self.inside.nodes.list.items c.self.inside.first) c.args.z c.self.invariant.ascends) (met_every c.self.inside.of_empty (read MOST_COLUMNS c.self.inside.nodes.list.items c.self.inside.first) c.args.z c.self.invariant.ascends)
    ∙ ap (λ ps. inside ps c.args.z) c.self.view_is
  where
    all_met : c.push_inside.new.found.items ≡ (met c.self.inside.of_empty (read MOST_COLUMNS c.self.inside.nodes.list.items c.self.inside.first) c.args.z c.self.invariant.ascends)
    all_met = c.in_ok-push_inside.ensures 0 (read MOST_COLUMNS c.self.inside.nodes.list.items c.self.inside.first) (tree_reads c.self.inside.nodes.list.items c.self.inside.nodes.unused.items c.self.inside.first 0 (read MOST_COLUMNS c.self.inside.nodes.list.items c.self.inside.first) c.self.invariant)
        ∙ ap₂ (λ us vs. us ++ vs) (c.in_ok-push_entry.ensures ∙ ap₂ (λ us (e : ℕ). us ++ entry e c.self.inside.of_empty) c.new-found.ensures.items c.empty.ensures) (ap (λ (e : ℕ). walk e (read MOST_COLUMNS c.self.inside.nodes.list.items c.self.inside.first) c.args.z) c.empty-2.ensures)
