use Rattle.std.proofs.Common.{◌∙◌, sym, ap, Some, not}
use Rattle.std.specs.Option.{is_some}
use Rattle.set_tree.proofs.Spots.{spot_within, look_spot, look_nowhere, replaced, tree_reads}
use Rattle.set_tree.proofs.nodes.Nodes.replace.Goals as goal

pub returns-in_default-clause-found : goal.returns-in_default-clause-found
returns-in_default-clause-found g c from t tree = sym (ap is_some (look_nowhere t c.args.x (sym (c.find.ensures from t tree) ∙ c.in_default.is)))

pub at-requires : goal.at-requires
at-requires g c = spot_within c.args.self.now.list.items c.requires.shape c.args.x c.in-Some.place c.requires.tree.kept (sym (c.find.ensures c.requires.from c.requires.shape c.requires.tree) ∙ c.in-Some.is)

pub returns-then-is_none-clause-found : goal.returns-then-is_none-clause-found
returns-then-is_none-clause-found g c from t tree = sym (ap is_some (look_spot c.args.self.now.list.items t c.args.x c.in-Some.place c.at.result tree.kept (sym (c.find.ensures from t tree) ∙ c.in-Some.is) c.at.ensures) ∙ c.if-is_none.ensures)

pub set_value-requires : goal.set_value-requires
set_value-requires g c = spot_within c.args.self.now.list.items c.requires.shape c.args.x c.in-Some.place c.requires.tree.kept (sym (c.find.ensures c.requires.from c.requires.shape c.requires.tree) ∙ c.in-Some.is)

pub returns-clause-found : goal.returns-clause-found
returns-clause-found g c from t tree = sym (ap is_some (look_spot c.args.self.now.list.items t c.args.x c.in-Some.place c.at.result tree.kept (sym (c.find.ensures from t tree) ∙ c.in-Some.is) c.at.ensures) ∙ c.is_none.ensures ∙ ap not c.if-is_none.false)

pub returns-clause-path : goal.returns-clause-path
returns-clause-path g c e from t tree =
    let there = sym (c.find.ensures from t (tree_reads c.args.self.now.list.items c.args.self.now.unused.items c.args.link from t tree)) ∙ c.in-Some.is in
    replaced c.args.self.now.list.items c.set_value.new.self.list.items c.args.self.now.unused.items c.set_value.new.self.unused.items c.args.link from c.args.x c.in-Some.place (Some c.args.value) t tree there
    (c.set_value.ensures.values t tree.kept) c.set_value.ensures.length c.set_value.ensures.unused c.set_value.ensures.others
