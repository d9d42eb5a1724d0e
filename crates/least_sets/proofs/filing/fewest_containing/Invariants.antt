use Rattle.std.proofs.Common.{◌≡◌}
use Rattle.col_set.specs.declared.target.Target.{Target}
use Rattle.col_set.specs.Evidence.{refuted}
use Rattle.least_sets.proofs.filing.fewest_containing.Given as goal

abbrev pub invariant-loop-column : goal.invariant-loop-column
invariant-loop-column l = (t : Target) → refuted l.fewest t l.z ≡ refuted l.agree_sets t l.z
