use Rattle.set_tree.proofs.nodes.Nodes.+path_to.Given as goal

abbrev pub decreases-path_to : goal.decreases-path_to
decreases-path_to g l = l.rest
