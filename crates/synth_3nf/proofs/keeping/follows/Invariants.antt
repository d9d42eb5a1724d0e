use Rattle.col_set.specs.ColSet.{all, minus}
use Rattle.synth_3nf.proofs.Both.{Closing}
use Rattle.synth_3nf.proofs.keeping.follows.Given as goal

abbrev pub invariant-loop-fd : goal.invariant-loop-fd
invariant-loop-fd l = Closing l.kept l.later l.fd.right l.fd.left l.reached l.next

abbrev pub decreases-loop-fd : goal.decreases-loop-fd
decreases-loop-fd l = minus (all 128) l.reached
