use Rattle.cover_cert.specs.Holding.{AreVisits}
use Rattle.cover_cert.proofs.holding.ranked.Given as goal

abbrev pub invariant-loop-place : goal.invariant-loop-place
invariant-loop-place l = AreVisits l.place l.visits.items
