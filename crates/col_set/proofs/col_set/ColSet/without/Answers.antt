use Rattle.std.proofs.Common.{◌∙◌, ap, arith}
use Rattle.col_set.proofs.Codes.{without_is}
use Rattle.col_set.specs.ColSet.{without}
use Rattle.col_set.proofs.col_set.ColSet.without.Goals as goal

pub returns : goal.returns
returns c = without_is _ _ (omega arith) c.requires ∙ ap (λ x. without x c.args.column) c.self.view_is
