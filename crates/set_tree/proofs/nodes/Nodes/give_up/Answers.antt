use Rattle.std.proofs.Common.{length}
use Rattle.set_tree.proofs.Places.{noted}
use Rattle.set_tree.proofs.nodes.Nodes.give_up.Goals as goal

pub returns-clause-fewer : goal.returns-clause-fewer
returns-clause-fewer g c = noted (length c.args.self.now.list.items) c.args.self.now.unused.items c.push-noted.new.self.items c.args.place _ c.push-noted.ensures.items
