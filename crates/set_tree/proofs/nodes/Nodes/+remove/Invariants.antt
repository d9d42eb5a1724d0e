use Rattle.set_tree.specs.Tree.{tall}
use Rattle.set_tree.proofs.nodes.Nodes.+remove.Given as goal

abbrev pub decreases-remove : goal.decreases-remove
decreases-remove g l = tall l.self.now.list.items l.link
