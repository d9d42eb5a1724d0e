use Rattle.std.proofs.Common.{refl, ◌<◌, ◌≤◌, ◌+◌, ◌∙◌, sym, ap, subst, length, ℕ, List, IfOk}
use Rattle.std.specs.List.{slice_get}
use Rattle.set_tree.specs.Tree.{spare, one}
use Rattle.set_tree.proofs.Places.{taken_within, taken_fewer, taken_other}
use Rattle.set_tree.proofs.nodes.Nodes.add.Goals as goal

pub set-requires : goal.set-requires
set-requires g c = subst (λ (n : ℕ). c.in-Some.place < n) (sym (ap length c.in-Some.ensures.list))
    (taken_within (length c.args.self.now.list.items) c.args.self.now.unused.items c.take_unused.new.self.unused.items c.in-Some.place c.in-Some.ensures.some c.requires)

pub returns-in-Some-clause-fewer : goal.returns-in-Some-clause-fewer
returns-in-Some-clause-fewer g c k =
    subst (λ (n : ℕ). one c.in-Some.place k + spare n c.set.new.self.unused.items k ≤ spare (length c.args.self.now.list.items) c.args.self.now.unused.items k) (sym (c.set.ensures.length ∙ ap length c.in-Some.ensures.list))
    (subst (λ (us : List ℕ). one c.in-Some.place k + spare (length c.args.self.now.list.items) us k ≤ spare (length c.args.self.now.list.items) c.args.self.now.unused.items k) (sym c.set.ensures.unused)
    (taken_fewer (length c.args.self.now.list.items) c.args.self.now.unused.items c.take_unused.new.self.unused.items c.in-Some.place c.in-Some.ensures.some k))

pub returns-in-Some-clause-same : goal.returns-in-Some-clause-same
returns-in-Some-clause-same g c k z =
    c.set.ensures.others k (taken_other (length c.args.self.now.list.items) c.args.self.now.unused.items c.take_unused.new.self.unused.items c.in-Some.place c.in-Some.ensures.some k z)
    ∙ ap (λ ns. slice_get ns k) c.in-Some.ensures.list

pub returns-in-None-clause-here : goal.returns-in-None-clause-here
returns-in-None-clause-here g c = c.push.ensures.here

pub returns-in-None-clause-fewer : goal.returns-in-None-clause-fewer
returns-in-None-clause-fewer g c =
    subst (λ (us : List ℕ). IfOk c.push.result (λ place. (k : ℕ) → one place k + spare (length c.push.new.self.list.items) c.push.new.self.unused.items k ≤ spare (length c.args.self.now.list.items) us k)) (c.in-None.ensures.none refl)
    (subst (λ (n : ℕ). IfOk c.push.result (λ place. (k : ℕ) → one place k + spare (length c.push.new.self.list.items) c.push.new.self.unused.items k ≤ spare n c.take_unused.new.self.unused.items k)) (ap length c.in-None.ensures.list)
    c.push.ensures.fewer)
