use Rattle.validator.proofs.KeptLists.{Nearest}
use Rattle.validator.proofs.cache.lightest_kept.Given as goal

abbrev pub invariant-loop : goal.invariant-loop
invariant-loop l = Nearest l.kept l.columns l.chosen l.best
