use Rattle.validator.proofs.cache.Cache.lacks_order.Given as goal

abbrev pub decreases-loop-column : goal.decreases-loop-column
decreases-loop-column l = l.left
