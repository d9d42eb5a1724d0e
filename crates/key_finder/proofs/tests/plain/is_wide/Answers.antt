use Rattle.std.proofs.Common.{◌∙◌, sym, ap, length}
use Rattle.col_set.specs.ColSet.{all}
use Rattle.key_finder.proofs.PlainTests.{within-true}
use Rattle.key_finder.proofs.tests.plain.is_wide.Goals as goal

pub returns : goal.returns
returns c e = within-true c.args.columns (length c.args.snapshot.now.codes) c.all.result (c.all.ensures ∙ ap all c.columns.ensures.value) (sym c.subset_of.ensures ∙ e)
