use Rattle.std.proofs.Common.{◌∙◌, ap}
use Rattle.std.specs.Option.{is_some}
use Rattle.set_tree.proofs.Listing.{is_some_value}
use Rattle.set_tree.proofs.set_tree.SetTree.has.Goals as goal

pub returns : goal.returns
returns g c = c.is_some.ensures ∙ ap is_some c.get.ensures.value ∙ is_some_value c.args.self.now c.args.x
