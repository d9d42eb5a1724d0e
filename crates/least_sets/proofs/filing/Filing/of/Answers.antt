use Rattle.std.proofs.Common.{◌∙◌, sym, ap}
use Rattle.std.proofs.lemmas.Bool.{false≢true}
use Rattle.col_set.specs.ColSet.{has}
use Rattle.col_set.specs.Members.{has-empty}
use Rattle.least_sets.specs.declared.filing.Known.{Known}
use Rattle.least_sets.proofs.filing.Filing.of.Goals as goal

pub filed-requires-clause-row_id : goal.filed-requires-clause-row_id
filed-requires-clause-row_id c = λ h. absurd (false≢true (sym (ap (λ (k : Known). k.row_id) c.nothing.ensures) ∙ h))

pub filed-requires-clause-columns : goal.filed-requires-clause-columns
filed-requires-clause-columns c = λ a l h. absurd (false≢true (sym (ap (λ (k : Known). has k.columns a) c.nothing.ensures ∙ has-empty a) ∙ h))
