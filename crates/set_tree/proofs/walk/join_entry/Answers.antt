use Rattle.std.proofs.Common.{◌∙◌, sym, ap}
use Rattle.set_tree.specs.Walks.{joined, entry}
use Rattle.set_tree.proofs.Reading.{joined_none, joined_one}
use Rattle.set_tree.proofs.walk.join_entry.Goals as goal

pub returns-in-Some : goal.returns-in-Some
returns-in-Some g c f h = h c.args.start c.args.path c.in-Some.value c.join.result c.join.ensures ∙ sym (joined_one f c.args.start (c.args.path, c.in-Some.value)) ∙ ap (λ o. joined f c.args.start (entry c.args.path o)) (sym c.in-Some.is)

pub returns-in-None : goal.returns-in-None
returns-in-None g c f h = sym (joined_none f c.args.start) ∙ ap (λ o. joined f c.args.start (entry c.args.path o)) (sym c.in-None.is)
