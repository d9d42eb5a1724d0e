use Rattle.std.proofs.Common.{◌<◌, ℕ, List, get_or}
use Rattle.std.specs.List.{All}
use Rattle.rel_base.specs.declared.batch.Op.{Op}
use Rattle.rel_base.specs.Batches.{IsAsWide}
use Rattle.refine_pool_tests.proofs.tests.are_all_as_wide.Given as goal

abbrev pub invariant-loop-batch : goal.invariant-loop-batch
invariant-loop-batch l = (k : ℕ) (d : List Op) → k < l.batch-index → All (IsAsWide l.width) (get_or l.batches k d)
