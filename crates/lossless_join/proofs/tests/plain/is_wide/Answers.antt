use Rattle.std.proofs.Common.{◌∙◌, sym, ap, length}
use Rattle.col_set.specs.ColSet.{all}
use Rattle.lossless_join.proofs.Plain.{within-true}
use Rattle.lossless_join.proofs.tests.plain.is_wide.Goals as goal

pub returns : goal.returns
returns c e = within-true c.args.columns (length c.args.row.now) c.all.result (c.all.ensures ∙ ap all c.len-2.ensures) (sym c.subset_of.ensures ∙ e)
