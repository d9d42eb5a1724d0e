use Rattle.std.proofs.Common.{Some}
use Rattle.set_tree.proofs.Growing.{keep_revalued}
use Rattle.set_tree.proofs.nodes.Nodes.set_value.Goals as goal

pub returns-clause-values : goal.returns-clause-values
returns-clause-values g c t k = keep_revalued c.args.self.now.list.items c.set.new.self.list.items c.args.place c.at-node.result (Some c.args.value) c.at-node.ensures c.set.ensures.here c.set.ensures.others t k
