use Rattle.std.proofs.Common.{◌∙◌, ap₂, arith}
use Rattle.col_set.proofs.Codes.{minus_is}
use Rattle.col_set.specs.ColSet.{minus}
use Rattle.col_set.proofs.col_set.ColSet.minus.Goals as goal

pub returns : goal.returns
returns c = minus_is _ _ (omega arith) (omega arith) ∙ ap₂ minus c.self.view_is c.other.view_is
