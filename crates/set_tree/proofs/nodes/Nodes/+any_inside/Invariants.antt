use Rattle.set_tree.specs.Tree.{tall}
use Rattle.set_tree.proofs.nodes.Nodes.+any_inside.Given as goal

abbrev pub decreases-any_inside : goal.decreases-any_inside
decreases-any_inside g l = tall l.self.now.list.items l.link
