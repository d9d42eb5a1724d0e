use Rattle.sampler.specs.Partners.{HasPutBelow}
use Rattle.sampler.proofs.windows.put_partners.Given as goal

abbrev pub invariant-loop-place : goal.invariant-loop-place
invariant-loop-place l = HasPutBelow l.distance l.place l.group l.initial.partners l.partners
