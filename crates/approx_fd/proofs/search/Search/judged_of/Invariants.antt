use Rattle.std.proofs.Common.{◌≡◌}
use Rattle.approx_fd.specs.Sweeps.{AreFindings}
use Rattle.approx_fd.proofs.search.Search.judged_of.Given as goal

abbrev pub invariant-loop-place : goal.invariant-loop-place
invariant-loop-place l = record {
  table : l.self.table ≡ l.fn.self.table;
  most : l.self.most ≡ l.fn.self.most;
  found : AreFindings l.fn.self.table l.fn.self.most l.found;
}
