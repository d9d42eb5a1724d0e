use Rattle.cover_steps.proofs.recent.Recent.tells.Given as goal

abbrev pub decreases-loop-column : goal.decreases-loop-column
decreases-loop-column l = l.rest
