use Rattle.std.proofs.Common.{◌∙◌, ◌++◌, List, sym, ap₂}
use Rattle.col_set.specs.declared.target.Target.TheVariants.{Col}
use Rattle.col_set.specs.ColSet.{Columns}
use Rattle.col_set.specs.Evidence.{least}
use Rattle.rel_base.specs.declared.dependency.Fd.{Fd}
use Rattle.rel_base.specs.Covers.{fds_to}
use Rattle.plain_base.proofs.Pairs.{flat_map-upto_more}
use Rattle.plain_base.proofs.pairwise.least_fds.Goals as goal

pub loop-column-preserved : goal.loop-column-preserved
loop-column-preserved c =
    c.in_ok-push_fds.ensures
    ∙ ap₂ (λ (old : List Fd) (lefts : List Columns). old ++ fds_to c.loop-column.column lefts) c.loop-column.invariant (c.as_slice.ensures.value ∙ c.in_ok-lefts.ensures)
    ∙ sym (flat_map-upto_more (λ a. fds_to a (least c.args.columns c.args.agree_sets.now (Col a))) c.loop-column.column)
