use Rattle.set_tree.specs.Tree.{tall}
use Rattle.set_tree.proofs.nodes.Nodes.+find.Given as goal

abbrev pub decreases-find : goal.decreases-find
decreases-find g l = tall l.self.now.list.items l.link
