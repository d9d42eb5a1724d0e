use Rattle.std.proofs.Common.{◌≡◌, ◌<◌, true}
use Rattle.col_set.specs.ColSet.{IsSubset, has}
use Rattle.least_sets.proofs.scans.most_lacked.Given as goal

abbrev pub invariant-loop-column : goal.invariant-loop-column
invariant-loop-column g l = record {
  best : has l.fn.columns l.best ≡ true;
  bound : l.best < 128;
  within : IsSubset l.rest l.fn.columns;
}

abbrev pub decreases-loop-column : goal.decreases-loop-column
decreases-loop-column g l = l.rest
