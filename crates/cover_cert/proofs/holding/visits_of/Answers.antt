use Rattle.cover_cert.proofs.Visits.{visits-permuted}
use Rattle.std.proofs.Common.{length}
use Rattle.cover_cert.proofs.holding.visits_of.Goals as goal

pub returns : goal.returns
returns c = visits-permuted (length c.args.claims.now) c.in_ok-visits.visits.items c.sort_unstable.new.self.items c.sort_unstable.ensures.permutation c.in_ok-visits.ensures
