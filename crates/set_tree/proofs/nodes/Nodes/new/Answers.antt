use Rattle.std.proofs.Common.{◌≤◌, ℕ, List, length, sym, subst, ap}
use Rattle.set_tree.specs.Tree.{spare}
use Rattle.set_tree.proofs.Places.{spare_none}
use Rattle.set_tree.proofs.nodes.Nodes.new.Goals as goal

pub returns : goal.returns
returns g c k = subst (λ (n : ℕ). spare n c.new-2.result.items k ≤ 1) (sym (ap length c.new.ensures.items)) (subst (λ (us : List ℕ). spare 0 us k ≤ 1) (sym c.new-2.ensures.items) (spare_none k))
