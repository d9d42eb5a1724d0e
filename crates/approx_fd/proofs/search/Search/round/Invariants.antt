use Rattle.std.proofs.Common.{◌≡◌}
use Rattle.approx_fd.proofs.Judging.{Judged}
use Rattle.approx_fd.proofs.search.Search.round.Given as goal

abbrev pub invariant-loop-left : goal.invariant-loop-left
invariant-loop-left l = record {
  table : l.self.table ≡ l.fn.self.table;
  most : l.self.most ≡ l.fn.self.most;
  judged : Judged l.fn.self.table l.fn.self.most l.target l.candidates l.left-index l.kept.items l.news.items;
}
