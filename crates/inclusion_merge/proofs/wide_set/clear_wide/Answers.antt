use Rattle.std.proofs.Common.{arith}
use Rattle.inclusion_merge.proofs.Wide.{has_wide-none}
use Rattle.inclusion_merge.proofs.wide_set.clear_wide.Goals as goal

pub returns : goal.returns
returns c = has_wide-none c.loop-part.parts (λ k l. c.loop-part.invariant k (omega arith))
