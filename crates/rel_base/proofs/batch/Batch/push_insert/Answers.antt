use Rattle.std.proofs.Common.{◌∙◌, ◌++◌, ◌∷◌, [], ap₂, sym, List, ℕ}
use Rattle.std.proofs.lemmas.List.{append-nil}
use Rattle.rel_base.specs.declared.batch.Op.TheVariants.{Insert}
use Rattle.rel_base.specs.declared.batch.Step.{Step}
use Rattle.rel_base.specs.declared.batch.Step.TheVariants as step
use Rattle.rel_base.proofs.PackedOps.{ArePackedOps-more, ops-more}
use Rattle.rel_base.proofs.batch.Batch.push_insert.Goals as goal

pub invariant_of-self-2 : goal.invariant_of-self-2
invariant_of-self-2 c =
    let b = c.self.inside in
    ArePackedOps-more b.steps.items b.numbers.items b.cells c.self.invariant (Insert c.args.row.now) c.append.new.list.items b.numbers.items c.push_row.new.self
    (c.append.ensures ∙ ap₂ (λ (xs : List Step) (n : ℕ). xs ++ step.Insert n ∷ []) c.in_ok-reserve.ensures.items c.len-2.ensures)
    (sym (append-nil b.numbers.items)) c.in_ok-push_row.ensures.pushed c.in_ok-push_row.ensures.few

pub returns-clause-pushed : goal.returns-clause-pushed
returns-clause-pushed c =
    let b = c.self.inside in
    ops-more b.steps.items b.numbers.items b.cells c.self.invariant c.args.self.now c.self.view_is (Insert c.args.row.now) c.append.new.list.items b.numbers.items c.push_row.new.self
    (c.append.ensures ∙ ap₂ (λ (xs : List Step) (n : ℕ). xs ++ step.Insert n ∷ []) c.in_ok-reserve.ensures.items c.len-2.ensures)
    (sym (append-nil b.numbers.items)) c.in_ok-push_row.ensures.pushed c.in_ok-push_row.ensures.few
