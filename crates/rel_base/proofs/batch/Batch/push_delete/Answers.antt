use Rattle.std.proofs.Common.{◌∙◌, ◌++◌, ◌∷◌, [], ap, sym, List}
use Rattle.std.proofs.lemmas.List.{append-nil}
use Rattle.rel_base.specs.declared.batch.Op.TheVariants.{Delete}
use Rattle.rel_base.specs.declared.batch.Step.{Step}
use Rattle.rel_base.specs.declared.batch.Step.TheVariants as step
use Rattle.rel_base.proofs.PackedOps.{ArePackedOps-more, ops-more}
use Rattle.rel_base.proofs.batch.Batch.push_delete.Goals as goal

pub invariant_of-self-2 : goal.invariant_of-self-2
invariant_of-self-2 c =
    let b = c.self.inside in
    ArePackedOps-more b.steps.items b.numbers.items b.cells c.self.invariant (Delete c.args.number) c.append.new.list.items c.push.new.self.items b.cells
    (c.append.ensures ∙ ap (λ (xs : List Step). xs ++ step.Delete ∷ []) c.in_ok-reserve.ensures.items) c.in_ok-push.ensures.items (sym (append-nil b.cells)) c.self.invariant.few_cells

pub returns-clause-pushed : goal.returns-clause-pushed
returns-clause-pushed c =
    let b = c.self.inside in
    ops-more b.steps.items b.numbers.items b.cells c.self.invariant c.args.self.now c.self.view_is (Delete c.args.number) c.append.new.list.items c.push.new.self.items b.cells
    (c.append.ensures ∙ ap (λ (xs : List Step). xs ++ step.Delete ∷ []) c.in_ok-reserve.ensures.items) c.in_ok-push.ensures.items (sym (append-nil b.cells)) c.self.invariant.few_cells
