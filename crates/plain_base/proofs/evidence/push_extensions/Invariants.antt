use Rattle.std.proofs.Common.{◌≡◌, ◌++◌}
use Rattle.col_set.specs.Evidence.{extensions}
use Rattle.plain_base.proofs.evidence.push_extensions.Given as goal

abbrev pub invariant-loop-column : goal.invariant-loop-column
invariant-loop-column l = l.grown.items ≡ l.fn.grown.items ++ extensions l.column l.target l.z l.x
