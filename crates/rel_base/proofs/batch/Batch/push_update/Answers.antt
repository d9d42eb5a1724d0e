use Rattle.std.proofs.Common.{◌∙◌, ◌++◌, ◌∷◌, [], ap, ap₂, List, ℕ}
use Rattle.rel_base.specs.declared.batch.Op.TheVariants.{Update}
use Rattle.rel_base.specs.declared.batch.Step.{Step}
use Rattle.rel_base.specs.declared.batch.Step.TheVariants as step
use Rattle.rel_base.proofs.PackedOps.{ArePackedOps-more, ops-more}
use Rattle.rel_base.proofs.batch.Batch.push_update.Goals as goal

pub invariant_of-self-2 : goal.invariant_of-self-2
invariant_of-self-2 c =
    let b = c.self.inside in
    ArePackedOps-more b.steps.items b.numbers.items b.cells c.self.invariant (Update c.args.number c.args.row.now) c.append-2.new.list.items c.append.new.list.items c.push_row.new.self
    (c.append-2.ensures ∙ ap₂ (λ (xs : List Step) (n : ℕ). xs ++ step.Update n ∷ []) c.in_ok-reserve.ensures.items c.len-2.ensures)
    (c.append.ensures ∙ ap (λ (ns : List ℕ). ns ++ c.args.number ∷ []) c.in_ok-reserve-2.ensures.items) c.in_ok-push_row.ensures.pushed c.in_ok-push_row.ensures.few

pub returns-clause-pushed : goal.returns-clause-pushed
returns-clause-pushed c =
    let b = c.self.inside in
    ops-more b.steps.items b.numbers.items b.cells c.self.invariant c.args.self.now c.self.view_is (Update c.args.number c.args.row.now) c.append-2.new.list.items c.append.new.list.items c.push_row.new.self
    (c.append-2.ensures ∙ ap₂ (λ (xs : List Step) (n : ℕ). xs ++ step.Update n ∷ []) c.in_ok-reserve.ensures.items c.len-2.ensures)
    (c.append.ensures ∙ ap (λ (ns : List ℕ). ns ++ c.args.number ∷ []) c.in_ok-reserve-2.ensures.items) c.in_ok-push_row.ensures.pushed c.in_ok-push_row.ensures.few
