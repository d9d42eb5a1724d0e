use Rattle.std.proofs.Common.{◌≡◌}
use Rattle.approx_fd.specs.Sweeps.{AreFindings}
use Rattle.approx_fd.proofs.search.Search.swept.Given as goal

abbrev pub invariant-loop-size : goal.invariant-loop-size
invariant-loop-size l = record {
  table : l.self.table ≡ l.fn.self.table;
  most : l.self.most ≡ l.fn.self.most;
  found : AreFindings l.fn.self.table l.fn.self.most l.found;
}
