use Rattle.std.proofs.Common.{◌≡◌, ◌∙◌, ◌==◌, sym, ap, subst, ℕ, true, None, if◌then◌else◌, arith}
use Rattle.col_set.specs.ColSet.{with, has}
use Rattle.col_set.specs.declared.col_set.TheConstants.{MOST_COLUMNS}
use Rattle.set_tree.specs.Tree.{look, but}
use Rattle.set_tree.specs.Pairs.{without_key}
use Rattle.set_tree.specs.Walks.{values, read}
use Rattle.set_tree.proofs.Paths.{first_behind, first_whole, first_none, first_some}
use Rattle.set_tree.proofs.Listing.{listed_removed}
use Rattle.set_tree.proofs.Whole.{becomes_tree, becomes_seen, values_but, values_top}
use Rattle.set_tree.proofs.set_tree.SetTree.remove.Goals as goal

pub remove-self-inside-requires-clause-behind : goal.remove-self-inside-requires-clause-behind
remove-self-inside-requires-clause-behind g c k h = first_behind c.args.x c.in-Some.column c.in-Some.ensures.value k (subst (λ (z : ℕ). has z k ≡ true) c.without.ensures h)

pub invariant_of-self : goal.invariant_of-self
invariant_of-self g c = becomes_tree c.self.inside.nodes.list.items c.remove-self-inside.new.self.list.items c.self.inside.nodes.unused.items c.remove-self-inside.new.self.unused.items c.self.inside.first c.remove-self-inside.result (read MOST_COLUMNS c.self.inside.nodes.list.items c.self.inside.first) (but (read MOST_COLUMNS c.self.inside.nodes.list.items c.self.inside.first) (with c.without.result c.in-Some.column) None) c.self.invariant (c.remove-self-inside.ensures 0 (read MOST_COLUMNS c.self.inside.nodes.list.items c.self.inside.first) c.self.invariant (omega arith))

pub returns-in-Some-clause-pairs : goal.returns-in-Some-clause-pairs
returns-in-Some-clause-pairs g c =
    listed_removed (values c.self.inside.of_empty (read MOST_COLUMNS c.self.inside.nodes.list.items c.self.inside.first)) (values c.self.inside.of_empty (read MOST_COLUMNS c.remove-self-inside.new.self.list.items c.remove-self-inside.result)) c.args.x
    (values_but c.self.inside.of_empty (read MOST_COLUMNS c.self.inside.nodes.list.items c.self.inside.first) (read MOST_COLUMNS c.remove-self-inside.new.self.list.items c.remove-self-inside.result) c.args.x None (first_some c.args.x c.in-Some.column c.in-Some.ensures.value)
    (λ y. becomes_seen c.self.inside.nodes.list.items c.remove-self-inside.new.self.list.items c.self.inside.nodes.unused.items c.remove-self-inside.new.self.unused.items c.self.inside.first c.remove-self-inside.result (read MOST_COLUMNS c.self.inside.nodes.list.items c.self.inside.first) (but (read MOST_COLUMNS c.self.inside.nodes.list.items c.self.inside.first) (with c.without.result c.in-Some.column) None) c.self.invariant (c.remove-self-inside.ensures 0 (read MOST_COLUMNS c.self.inside.nodes.list.items c.self.inside.first) c.self.invariant (omega arith)) y ∙ ap (λ (z : ℕ). if y == z then None else look (read MOST_COLUMNS c.self.inside.nodes.list.items c.self.inside.first) y) (ap (λ (z : ℕ). with z c.in-Some.column) c.without.ensures ∙ first_whole c.args.x c.in-Some.column c.in-Some.ensures.value)))
    ∙ ap (λ ps. without_key ps c.args.x) c.self.view_is

pub returns-in-None-clause-pairs : goal.returns-in-None-clause-pairs
returns-in-None-clause-pairs g c =
    listed_removed (values c.self.inside.of_empty (read MOST_COLUMNS c.self.inside.nodes.list.items c.self.inside.first)) (values None (read MOST_COLUMNS c.self.inside.nodes.list.items c.self.inside.first)) c.args.x
    (λ y. values_top c.self.inside.of_empty None (read MOST_COLUMNS c.self.inside.nodes.list.items c.self.inside.first) y ∙ ap (λ (z : ℕ). if y == z then None else values c.self.inside.of_empty (read MOST_COLUMNS c.self.inside.nodes.list.items c.self.inside.first) y) (sym (first_none c.args.x c.in-None.ensures.value)))
    ∙ ap (λ ps. without_key ps c.args.x) c.self.view_is
