use Rattle.set_tree.specs.Tree.{tall}
use Rattle.set_tree.proofs.nodes.Nodes.+insert.Given as goal

abbrev pub decreases-insert : goal.decreases-insert
decreases-insert g l = tall l.self.now.list.items l.link
