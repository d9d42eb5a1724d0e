use Rattle.std.proofs.Common.{◌≡◌}
use Rattle.rel_base.specs.Agreement.{agree}
use Rattle.plain_base.proofs.pairwise.agree.Given as goal

abbrev pub invariant-loop-column : goal.invariant-loop-column
invariant-loop-column l = l.set ≡ agree l.nulls l.column l.one l.other
