use Rattle.std.proofs.Common.{◌∙◌, ap, arith, sym}
use Rattle.col_set.specs.Columns.{size-ones}
use Rattle.col_set.specs.ColSet.{size}
use Rattle.col_set.proofs.col_set.ColSet.len.Goals as goal

pub returns-clause-value : goal.returns-clause-value
returns-clause-value c = sym (size-ones _ (omega arith)) ∙ ap size c.self.view_is
