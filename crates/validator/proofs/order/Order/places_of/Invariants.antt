use Rattle.validator.proofs.order.Order.places_of.Given as goal

abbrev pub decreases-loop-column : goal.decreases-loop-column
decreases-loop-column l = l.left
