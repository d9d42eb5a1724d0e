use Rattle.std.proofs.Common.{◌≡◌, length}
use Rattle.key_finder.specs.Rounds.{standing}
use Rattle.key_finder.proofs.Judging.{Searching}
use Rattle.key_finder.proofs.rounds.table_keys.Given as goal

abbrev pub invariant-rounds : goal.invariant-rounds
invariant-rounds l = record {
  path : l.path.table ≡ l.snapshot;
  search : Searching l.snapshot l.columns l.agree_sets.items l.held.items;
}

abbrev pub decreases-rounds : goal.decreases-rounds
decreases-rounds l = standing (length l.snapshot.codes) l.agree_sets.items l.columns
