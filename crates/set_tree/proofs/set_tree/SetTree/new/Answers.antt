use Rattle.std.proofs.Common.{◌∙◌, ap, None}
use Rattle.col_set.specs.declared.col_set.TheConstants.{MOST_COLUMNS}
use Rattle.set_tree.specs.Walks.{values, read}
use Rattle.set_tree.proofs.Listing.{listed_none}
use Rattle.set_tree.proofs.Whole.{empty_tree, empty_shape, none_in_tip}
use Rattle.set_tree.proofs.set_tree.SetTree.new.Goals as goal

pub invariant_of-result : goal.invariant_of-result
invariant_of-result g c = empty_tree c.new.result.list.items c.new.result.unused.items c.new.ensures

pub returns : goal.returns
returns g c = listed_none (values None (read MOST_COLUMNS c.new.result.list.items None)) (λ y. ap (λ s. values None s y) (empty_shape c.new.result.list.items) ∙ none_in_tip g.row.V.Denot y)
