use Rattle.std.proofs.Common.{◌∙◌, ap, ℕ}
use Rattle.set_tree.proofs.Paths.{on_success}
use Rattle.set_tree.specs.Pairs.{inside}
use Rattle.set_tree.proofs.set_tree.SetTree.list.Goals as goal

pub returns-clause-pairs : goal.returns-clause-pairs
returns-clause-pairs g c = on_success c.subsets_of.result (λ found e. e ∙ ap (λ (z : ℕ). inside c.args.self.now z) c.all.ensures ∙ c.subsets_of.ensures.whole) c.subsets_of.ensures.pairs

pub returns-clause-order : goal.returns-clause-order
returns-clause-order g c = c.subsets_of.ensures.order
