use Rattle.std.proofs.Common.{◌≡◌, take}
use Rattle.key_finder.proofs.Judging.{Judged}
use Rattle.key_finder.proofs.rounds.judged.Given as goal

abbrev pub invariant-loop-key : goal.invariant-loop-key
invariant-loop-key l = record {
  path : l.path.table ≡ l.snapshot;
  judged : Judged l.snapshot l.columns l.keys l.key-index l.unique.items l.news.items;
}
