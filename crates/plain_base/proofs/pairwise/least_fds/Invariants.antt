use Rattle.std.proofs.Common.{◌≡◌}
use Rattle.std.specs.List.{flat_map}
use Rattle.col_set.specs.declared.target.Target.TheVariants.{Col}
use Rattle.col_set.specs.ColSet.{upto}
use Rattle.col_set.specs.Evidence.{least}
use Rattle.rel_base.specs.Covers.{fds_to}
use Rattle.plain_base.proofs.pairwise.least_fds.Given as goal

abbrev pub invariant-loop-column : goal.invariant-loop-column
invariant-loop-column l = l.fds.items ≡ flat_map (λ a. fds_to a (least l.columns l.agree_sets (Col a))) (upto l.column)
