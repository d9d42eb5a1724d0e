use Rattle.std.proofs.Common.{◌∙◌, ap, subst, ℕ}
use Rattle.set_tree.specs.Pairs.{inside, AreThose}
use Rattle.set_tree.specs.Walks.{nearer}
use Rattle.set_tree.proofs.Nearest.{nearest_found}
use Rattle.set_tree.proofs.set_tree.SetTree.first.Goals as goal

pub returns : goal.returns
returns g c p f =
    let w = c.fold_subsets_of.ensures.joined (nearer p) (λ a y v b h. h.1 p f) in
    w.2 ∙ nearest_found p c.args.self.now w.0 c.fold_subsets_of.ensures.order (subst (λ ps. AreThose ps w.0) (ap (λ (z : ℕ). inside c.args.self.now z) c.all.ensures ∙ c.fold_subsets_of.ensures.whole) w.1)
