use Rattle.cover_cert.proofs.holding.rank_of.Given as goal

abbrev pub decreases-loop-column : goal.decreases-loop-column
decreases-loop-column l = l.rest
