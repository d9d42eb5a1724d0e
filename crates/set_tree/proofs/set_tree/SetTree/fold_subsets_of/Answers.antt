use Rattle.std.proofs.Common.{◌≡◌, ◌∙◌, sym, ap, ap₂, subst, ℕ}
use Rattle.set_tree.specs.Pairs.{IsInOrder}
use Rattle.col_set.specs.ColSet.{all, empty}
use Rattle.col_set.specs.declared.col_set.TheConstants.{MOST_COLUMNS}
use Rattle.set_tree.specs.Walks.{values, read, joined}
use Rattle.set_tree.proofs.Spots.{tree_reads}
use Rattle.set_tree.proofs.Listing.{listed_rise, listed_whole}
use Rattle.set_tree.proofs.Apart.{met, apart_pairs}
use Rattle.set_tree.specs.Pairs.{inside, AreThose}
use Rattle.set_tree.specs.Walks.{walk, entry}
use Rattle.set_tree.proofs.Reading.{joined-append}
use Rattle.set_tree.proofs.Whole.{values_narrow}
use Rattle.set_tree.proofs.set_tree.SetTree.fold_subsets_of.Goals as goal

pub returns-clause-joined : goal.returns-clause-joined
returns-clause-joined g c f h = (
  met c.self.inside.of_empty (read MOST_COLUMNS c.self.inside.nodes.list.items c.self.inside.first) c.args.x c.self.invariant.ascends,
  subst (λ ps. AreThose (inside ps c.args.x) (met c.self.inside.of_empty (read MOST_COLUMNS c.self.inside.nodes.list.items c.self.inside.first) c.args.x c.self.invariant.ascends)) c.self.view_is (apart_pairs c.self.inside.of_empty (read MOST_COLUMNS c.self.inside.nodes.list.items c.self.inside.first) c.args.x c.self.invariant.ascends),
  c.fold_inside.ensures 0 (read MOST_COLUMNS c.self.inside.nodes.list.items c.self.inside.first) (tree_reads c.self.inside.nodes.list.items c.self.inside.nodes.unused.items c.self.inside.first 0 (read MOST_COLUMNS c.self.inside.nodes.list.items c.self.inside.first) c.self.invariant) f h
      ∙ ap₂ (λ a ps. joined f a ps) (c.join_entry-own.ensures f h ∙ ap (λ (e : ℕ). joined f c.args.start (entry e c.self.inside.of_empty)) c.empty.ensures) (ap (λ (e : ℕ). walk e (read MOST_COLUMNS c.self.inside.nodes.list.items c.self.inside.first) c.args.x) c.empty-2.ensures)
      ∙ sym (joined-append f c.args.start (entry empty c.self.inside.of_empty) (walk empty (read MOST_COLUMNS c.self.inside.nodes.list.items c.self.inside.first) c.args.x)),
)

pub returns-clause-whole : goal.returns-clause-whole
returns-clause-whole g c = subst (λ ps. inside ps (all MOST_COLUMNS) ≡ ps) c.self.view_is (listed_whole (values c.self.inside.of_empty (read MOST_COLUMNS c.self.inside.nodes.list.items c.self.inside.first)) (values_narrow c.self.inside.of_empty (read MOST_COLUMNS c.self.inside.nodes.list.items c.self.inside.first) c.self.invariant.ascends))

pub returns-clause-order : goal.returns-clause-order
returns-clause-order g c = subst IsInOrder c.self.view_is (listed_rise (values c.self.inside.of_empty (read MOST_COLUMNS c.self.inside.nodes.list.items c.self.inside.first)))
