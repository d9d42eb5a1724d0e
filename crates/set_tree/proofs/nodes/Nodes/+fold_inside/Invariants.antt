use Rattle.set_tree.specs.Tree.{tall}
use Rattle.set_tree.proofs.nodes.Nodes.+fold_inside.Given as goal

abbrev pub decreases-fold_inside : goal.decreases-fold_inside
decreases-fold_inside g l = tall l.self.now.list.items l.link
