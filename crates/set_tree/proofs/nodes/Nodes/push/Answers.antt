use Rattle.std.proofs.Common.{◌≤◌, ◌+◌, ◌∙◌, ◌∷◌, [], sym, ap, subst, length, ℕ}
use Rattle.std.specs.List.{slice_get}
use Rattle.std.proofs.lemmas.List.{length-append}
use Rattle.set_tree.specs.Tree.{spare, one}
use Rattle.set_tree.proofs.Places.{spare_pushed, spare_nothing, get_in}
use Rattle.set_tree.proofs.nodes.Nodes.push.Goals as goal

pub returns-clause-fewer : goal.returns-clause-fewer
returns-clause-fewer g c k =
    subst (λ (n : ℕ). one c.len-place.result k + spare n c.args.self.now.unused.items k ≤ spare (length c.args.self.now.list.items) c.args.self.now.unused.items k)
    (sym (ap length c.in_ok-push.ensures.items ∙ length-append c.args.self.now.list.items (c.args.node ∷ [])))
    (subst (λ (p : ℕ). one p k + spare (length c.args.self.now.list.items + 1) c.args.self.now.unused.items k ≤ spare (length c.args.self.now.list.items) c.args.self.now.unused.items k) (sym (c.len-place.ensures ∙ c.args.self.now.list.ok.0))
    (spare_pushed (length c.args.self.now.list.items) c.args.self.now.unused.items k))

pub returns-clause-same : goal.returns-clause-same
returns-clause-same g c k z = ap (λ ns. slice_get ns k) c.in_ok-push.ensures.items ∙ get_in c.args.self.now.list.items c.args.node k (spare_nothing (length c.args.self.now.list.items) c.args.self.now.unused.items k z)
