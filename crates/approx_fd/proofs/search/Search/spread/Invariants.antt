use Rattle.std.proofs.Common.{◌≡◌}
use Rattle.approx_fd.specs.Sweeps.{AreFindings}
use Rattle.approx_fd.proofs.search.Search.spread.Given as goal

abbrev pub invariant-loop-column : goal.invariant-loop-column
invariant-loop-column l = record {
  same : l.self ≡ l.fn.self;
  found : AreFindings l.fn.self.table l.fn.self.most l.found;
}
