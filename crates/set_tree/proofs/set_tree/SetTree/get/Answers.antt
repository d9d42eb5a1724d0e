use Rattle.std.proofs.Common.{◌∙◌, sym, ap, subst}
use Rattle.std.proofs.lemmas.Bool.{eqb-true, eqb-false}
use Rattle.col_set.specs.declared.col_set.TheConstants.{MOST_COLUMNS}
use Rattle.set_tree.specs.Pairs.{value_at, IsInOrder}
use Rattle.set_tree.specs.Walks.{values, read}
use Rattle.set_tree.proofs.Spots.{tree_reads}
use Rattle.set_tree.proofs.Listing.{value_listed, listed_rise}
use Rattle.set_tree.proofs.Whole.{values_here, values_path, values_narrow}
use Rattle.set_tree.proofs.set_tree.SetTree.get.Goals as goal

pub returns-then-eq-clause-value : goal.returns-then-eq-clause-value
returns-then-eq-clause-value g c = sym (values_here c.self.inside.of_empty (read MOST_COLUMNS c.self.inside.nodes.list.items c.self.inside.first) c.args.x (eqb-true _ _ (sym c.eq.ensures ∙ c.if-eq.true) ∙ c.empty.ensures)) ∙ sym (value_listed (values c.self.inside.of_empty (read MOST_COLUMNS c.self.inside.nodes.list.items c.self.inside.first)) (values_narrow c.self.inside.of_empty (read MOST_COLUMNS c.self.inside.nodes.list.items c.self.inside.first) c.self.invariant.ascends) c.args.x) ∙ ap (λ ps. value_at ps c.args.x) c.self.view_is

pub returns-clause-value : goal.returns-clause-value
returns-clause-value g c = c.value.ensures 0 (read MOST_COLUMNS c.self.inside.nodes.list.items c.self.inside.first) (tree_reads c.self.inside.nodes.list.items c.self.inside.nodes.unused.items c.self.inside.first 0 (read MOST_COLUMNS c.self.inside.nodes.list.items c.self.inside.first) c.self.invariant) ∙ sym (values_path c.self.inside.of_empty (read MOST_COLUMNS c.self.inside.nodes.list.items c.self.inside.first) c.args.x (λ e. eqb-false _ _ (sym c.eq.ensures ∙ c.if-eq.false) (e ∙ sym c.empty.ensures))) ∙ sym (value_listed (values c.self.inside.of_empty (read MOST_COLUMNS c.self.inside.nodes.list.items c.self.inside.first)) (values_narrow c.self.inside.of_empty (read MOST_COLUMNS c.self.inside.nodes.list.items c.self.inside.first) c.self.invariant.ascends) c.args.x) ∙ ap (λ ps. value_at ps c.args.x) c.self.view_is

pub returns-then-eq-clause-order : goal.returns-then-eq-clause-order
returns-then-eq-clause-order g c = subst IsInOrder c.self.view_is (listed_rise (values c.self.inside.of_empty (read MOST_COLUMNS c.self.inside.nodes.list.items c.self.inside.first)))

pub returns-clause-order : goal.returns-clause-order
returns-clause-order g c = subst IsInOrder c.self.view_is (listed_rise (values c.self.inside.of_empty (read MOST_COLUMNS c.self.inside.nodes.list.items c.self.inside.first)))
