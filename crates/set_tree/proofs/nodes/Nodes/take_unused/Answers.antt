use Rattle.set_tree.proofs.Places.{taken}
use Rattle.set_tree.proofs.nodes.Nodes.take_unused.Goals as goal

pub returns-clause-some : goal.returns-clause-some
returns-clause-some g c = taken c.args.self.now.unused.items c.pop.new.self.items c.pop.result c.pop.ensures.items
