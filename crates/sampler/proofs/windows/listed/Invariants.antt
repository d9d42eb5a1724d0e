use Rattle.std.proofs.Common.{◌≡◌, ◌-◌}
use Rattle.sampler.specs.Partners.{partners_to}
use Rattle.sampler.proofs.windows.listed.Given as goal

abbrev pub invariant-loop-number : goal.invariant-loop-number
invariant-loop-number l = l.pairs.items ≡ partners_to l.partners (l.number - 1)
