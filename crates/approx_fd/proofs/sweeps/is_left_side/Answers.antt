use Rattle.std.proofs.Common.{◌∙◌, ap, sym}
use Rattle.col_set.specs.ColSet.{subset}
use Rattle.approx_fd.proofs.Sweeping.{within}
use Rattle.approx_fd.proofs.sweeps.is_left_side.Goals as goal

pub returns-clause-within : goal.returns-clause-within
returns-clause-within c e = within c.args.set c.args.columns (ap (subset c.args.set) (sym c.all.ensures) ∙ sym c.subset_of.ensures ∙ e)
