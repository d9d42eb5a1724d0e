use Rattle.std.proofs.Common.{◌≡◌, take}
use Rattle.least_sets.proofs.filing.Filing.of.Given as goal

abbrev pub invariant-loop-z : goal.invariant-loop-z
invariant-loop-z l = l.filing ≡ record { width = l.columns; agree_sets = take l.z-index l.agree_sets }
