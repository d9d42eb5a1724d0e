use Rattle.set_tree.specs.Tree.{tall}
use Rattle.set_tree.proofs.nodes.Nodes.+push_inside.Given as goal

abbrev pub decreases-push_inside : goal.decreases-push_inside
decreases-push_inside g l = tall l.self.now.list.items l.link
