use Rattle.std.proofs.Common.{◌∙◌, sym}
use Rattle.set_tree.proofs.Spots.{spot_within, look_spot, look_nowhere}
use Rattle.set_tree.proofs.nodes.Nodes.value.Goals as goal

pub at-requires : goal.at-requires
at-requires g c = spot_within c.args.self.now.list.items c.requires.shape c.args.x c.in-Some.place c.requires.tree.kept (sym (c.find.ensures c.requires.from c.requires.shape c.requires.tree) ∙ c.in-Some.is)

pub returns-in-Some : goal.returns-in-Some
returns-in-Some g c from t tree = sym (look_spot c.args.self.now.list.items t c.args.x c.in-Some.place c.at.result tree.kept (sym (c.find.ensures from t tree) ∙ c.in-Some.is) c.at.ensures)

pub returns-in-None : goal.returns-in-None
returns-in-None g c from t tree = sym (look_nowhere t c.args.x (sym (c.find.ensures from t tree) ∙ c.in-None.is))
