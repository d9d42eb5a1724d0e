use Rattle.std.proofs.Common.{◌≡◌, ◌++◌, take}
use Rattle.rel_base.specs.Covers.{fds_to}
use Rattle.cover_steps.proofs.listed.push_fds.Given as goal

abbrev pub invariant-loop-left : goal.invariant-loop-left
invariant-loop-left l = l.fds.items ≡ l.fn.fds.items ++ fds_to l.right (take l.left-index l.sets)
