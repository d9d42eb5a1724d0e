use Rattle.std.proofs.Common.{◌∙◌, ◌||◌, sym, ap, Bool}
use Rattle.std.specs.List.{list_any}
use Rattle.col_set.specs.ColSet.{subset}
use Rattle.col_set.specs.declared.col_set.TheConstants.{MOST_COLUMNS}
use Rattle.set_tree.specs.Walks.{read, any_inside}
use Rattle.set_tree.proofs.Spots.{tree_reads}
use Rattle.set_tree.proofs.Whole.{any_is}
use Rattle.set_tree.proofs.set_tree.SetTree.any_subset_of.Goals as goal

pub returns-then-is_some : goal.returns-then-is_some
returns-then-is_some g c = c.if-is_some.true ∙ sym (ap (λ (b : Bool). b || any_inside (read MOST_COLUMNS c.self.inside.nodes.list.items c.self.inside.first) c.args.x) (sym c.is_some.ensures ∙ c.if-is_some.true)) ∙ any_is c.self.inside.of_empty (read MOST_COLUMNS c.self.inside.nodes.list.items c.self.inside.first) c.args.x c.self.invariant.ascends ∙ ap (λ ps. list_any (λ p. subset p.0 c.args.x) ps) c.self.view_is

pub returns-else-is_some : goal.returns-else-is_some
returns-else-is_some g c = c.any_inside.ensures 0 (read MOST_COLUMNS c.self.inside.nodes.list.items c.self.inside.first) (tree_reads c.self.inside.nodes.list.items c.self.inside.nodes.unused.items c.self.inside.first 0 (read MOST_COLUMNS c.self.inside.nodes.list.items c.self.inside.first) c.self.invariant) ∙ ap (λ (b : Bool). b || any_inside (read MOST_COLUMNS c.self.inside.nodes.list.items c.self.inside.first) c.args.x) (sym (sym c.is_some.ensures ∙ c.if-is_some.false)) ∙ any_is c.self.inside.of_empty (read MOST_COLUMNS c.self.inside.nodes.list.items c.self.inside.first) c.args.x c.self.invariant.ascends ∙ ap (λ ps. list_any (λ p. subset p.0 c.args.x) ps) c.self.view_is
