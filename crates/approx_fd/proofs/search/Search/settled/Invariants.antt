use Rattle.std.proofs.Common.{◌≡◌, length}
use Rattle.std.specs.List.{All}
use Rattle.approx_fd.specs.Search.{IsFailing, IsCounted, standing}
use Rattle.approx_fd.proofs.search.Search.settled.Given as goal

abbrev pub invariant-rounds : goal.invariant-rounds
invariant-rounds l = record {
  table : l.self.table ≡ l.fn.self.table;
  most : l.self.most ≡ l.fn.self.most;
  evidence : All (IsFailing l.fn.self.table l.fn.self.most l.target) l.evidence.items;
  held : All (IsCounted l.fn.self.table l.fn.self.most l.target) l.held.items;
}

abbrev pub decreases-rounds : goal.decreases-rounds
decreases-rounds l = standing (length l.fn.self.table.codes) l.evidence.items l.target
