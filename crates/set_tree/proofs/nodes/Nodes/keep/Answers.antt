use Rattle.std.proofs.Common.{◌≤◌, ◌+◌, ap, subst, length, ℕ}
use Rattle.set_tree.specs.Tree.{spare, one}
use Rattle.set_tree.proofs.Places.{not_some}
use Rattle.set_tree.proofs.Growing.{let_go, placed}
use Rattle.set_tree.proofs.nodes.Nodes.keep.Goals as goal

pub returns-then-is_none-2 : goal.returns-then-is_none-2
returns-then-is_none-2 g c from l r below beside loose =
    let_go c.args.self.now.list.items c.give_up.new.self.list.items c.args.self.now.unused.items c.give_up.new.self.unused.items c.args.place from c.args.node l r below beside loose
    (not_some c.args.node.value c.if-is_none.ensures) (not_some c.args.node.child c.if-is_none-2.ensures) c.give_up.ensures.list (λ k. subst (λ (n : ℕ). spare n c.give_up.new.self.unused.items k ≤ one c.args.place k + spare (length c.args.self.now.list.items) c.args.self.now.unused.items k) (ap length c.give_up.ensures.list) (c.give_up.ensures.fewer k))

pub returns : goal.returns
returns g c from l r below beside loose =
    placed c.args.self.now.list.items c.set.new.self.list.items c.args.self.now.unused.items c.set.new.self.unused.items c.args.place from c.args.node l r below beside loose
    c.set.ensures.here c.set.ensures.others c.set.ensures.length c.set.ensures.unused
