use Rattle.std.proofs.Common.{get_or}
use Rattle.col_set.specs.ColSet.{union}
use Rattle.validator.proofs.KeptLists.{Refining}
use Rattle.validator.proofs.cache.refine_kept.Given as goal

abbrev pub invariant-loop-first : goal.invariant-loop-first
invariant-loop-first l = Refining l.snapshot (λ d. union (get_or l.fn.kept.items l.fn.base d).columns l.fn.columns) l.kept.items l.slots.items l.k l.left

abbrev pub decreases-loop-first : goal.decreases-loop-first
decreases-loop-first l = l.left
