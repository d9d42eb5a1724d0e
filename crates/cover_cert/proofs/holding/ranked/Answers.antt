use Rattle.cover_cert.proofs.Visits.{visits-more}
use Rattle.cover_cert.proofs.holding.ranked.Goals as goal

pub loop-place-preserved : goal.loop-place-preserved
loop-place-preserved c = visits-more c.loop-place.place c.rank_of.result c.loop-place.visits.items c.push.new.self.items c.loop-place.invariant c.in_ok-push.ensures.items
