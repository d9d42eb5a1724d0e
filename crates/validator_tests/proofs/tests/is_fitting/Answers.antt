use Rattle.std.proofs.Common.{◌≡◌, ◌<◌, ◌≤◌, ◌^◌, ℕ, length, true, sym, ap, ap₂, ◌∙◌, subst}
use Rattle.std.proofs.lemmas.Bool.{leb-true}
use Rattle.col_set.specs.ColSet.{all, subset}
use Rattle.col_set.specs.Target.{IsColumnTarget}
use Rattle.rel_base.specs.JobParts.{JobParts}
use Rattle.rel_base.specs.CodeTable.{CodeTable}
use Rattle.validator.specs.Verdicts.{IsFitting}
use Rattle.validator_tests.proofs.PlainTests.{columns_below, one_row}
use Rattle.validator_tests.proofs.tests.is_fitting.Goals as goal

fits : (job : JobParts) (columns : ℕ) → columns ≡ length job.snapshot.codes → subset job.left (all columns) ≡ true → IsColumnTarget columns job.target → job.from ≤ 2 → IsFitting job
fits job columns c e t few = record {
  left = subst (λ (n : ℕ). job.left < 2 ^ n) c (columns_below job.left columns e);
  target = subst (λ (n : ℕ). IsColumnTarget n job.target) c t;
  below = one_row job.snapshot job.from job.left job.target few;
}

pub returns-clause-fitting : goal.returns-clause-fitting
returns-clause-fitting c t =
    let columns : c.columns-columns.result ≡ length c.args.job.now.snapshot.codes = c.columns-columns.ensures.value ∙ ap (λ (s : CodeTable). length s.codes) c.snapshot.ensures in
    let inside : subset c.args.job.now.left (all c.columns-columns.result) ≡ true =
    ap₂ subset (sym c.left.ensures) (sym c.all.ensures) ∙ sym c.subset_of.ensures ∙ c.if-not-subset_of.false in
    fits c.args.job.now c.columns-columns.result columns inside
    (subst (IsColumnTarget c.columns-columns.result) c.target.ensures (c.is_target.ensures.given c.if-not-is_target.false))
    (subst (λ (n : ℕ). n ≤ 2) (c.number.ensures.value ∙ c.from.ensures) (leb-true c.number.result 2 t))
