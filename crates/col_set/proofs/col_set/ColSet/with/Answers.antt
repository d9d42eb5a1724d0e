use Rattle.std.proofs.Common.{◌∙◌, ap}
use Rattle.col_set.proofs.Codes.{with_is}
use Rattle.col_set.specs.ColSet.{with}
use Rattle.col_set.proofs.col_set.ColSet.with.Goals as goal

pub returns : goal.returns
returns c = with_is _ _ c.requires ∙ ap (λ x. with x c.args.column) c.self.view_is
