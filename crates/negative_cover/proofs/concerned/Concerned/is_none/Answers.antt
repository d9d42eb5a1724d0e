use Rattle.std.proofs.Common.{sym, ap, ◌∙◌, not}
use Rattle.std.proofs.lemmas.Bool.{true≢false, eqb-true, eq-eqb}
use Rattle.col_set.specs.declared.target.Target.TheVariants.{RowId}
use Rattle.negative_cover.proofs.Concerning.{none-concerned, none-columns}
use Rattle.negative_cover.proofs.concerned.Concerned.is_none.Goals as goal

pub returns-then-not-self : goal.returns-then-not-self
returns-then-not-self c = (
  (λ e. none-concerned c.args.self.now c.if-not-self.true (eqb-true _ _ (sym c.eq.ensures ∙ e) ∙ c.empty.ensures)),
  (λ none. c.eq.ensures ∙ eq-eqb _ _ (none-columns c.args.self.now none ∙ sym c.empty.ensures)),
)

pub returns-else-not-self : goal.returns-else-not-self
returns-else-not-self c = (
  (λ e. absurd (true≢false (sym e ∙ ap not c.if-not-self.false))),
  (λ none. absurd (true≢false (sym c.if-not-self.false ∙ none RowId))),
)
