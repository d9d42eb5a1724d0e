use Rattle.std.proofs.Common.{◌∙◌, ◌==◌, ap, ℕ}
use Rattle.rel_base.proofs.PackedOps.{len-now}
use Rattle.rel_base.proofs.batch.Batch.is_empty.Goals as goal

pub returns : goal.returns
returns c =
    let b = c.self.inside in
    c.is_empty.ensures ∙ ap (λ (n : ℕ). n == 0) (b.steps.ok.0 ∙ len-now b.steps.items b.numbers.items b.cells c.self.invariant c.args.self.now c.self.view_is)
