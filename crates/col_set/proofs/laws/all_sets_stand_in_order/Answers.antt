use Rattle.col_set.specs.ColSet.{report_cmp, all_sets}
use Rattle.col_set.specs.AllSets.{Listed-all_sets, all_sets_below, Rises-all_sets}
use Rattle.col_set.proofs.Places.{Contains-listed, Listed-contained, AllPairs-rises}
use Rattle.col_set.proofs.laws.all_sets_stand_in_order.Goals as goal

pub returns : goal.returns
returns c = record {
  every = λ x h. Contains-listed x (all_sets c.args.n) (Listed-all_sets c.args.n x h);
  only = λ x h. all_sets_below c.args.n x (Listed-contained x (all_sets c.args.n) h);
  sorted = AllPairs-rises report_cmp (all_sets c.args.n) (Rises-all_sets c.args.n);
}
