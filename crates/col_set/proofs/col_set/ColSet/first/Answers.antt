use Rattle.std.proofs.Common.{◌∙◌, ap, sym, arith}
use Rattle.col_set.proofs.Codes.{first_is, first-zero}
use Rattle.col_set.specs.ColSet.{first}
use Rattle.col_set.proofs.col_set.ColSet.first.Goals as goal

pub returns-then-self-eq0-clause-value : goal.returns-then-self-eq0-clause-value
returns-then-self-eq0-clause-value c = sym first-zero ∙ ap first (sym c.if-self-eq0.true ∙ c.self.view_is)

pub returns-else-self-eq0-clause-value : goal.returns-else-self-eq0-clause-value
returns-else-self-eq0-clause-value c = first_is _ (let h = c.if-self-eq0.false in omega arith) (omega arith) ∙ ap first c.self.view_is
