use Rattle.std.proofs.Common.{◌≤◌, length}
use Rattle.sampler.specs.Window.{AreNeighbours}
use Rattle.sampler.proofs.Lasts.{AreLast}
use Rattle.sampler.proofs.spread.neighbours.Given as goal

abbrev pub invariant-loop-number : goal.invariant-loop-number
invariant-loop-number l = record {
  last : AreLast l.snapshot l.column l.number l.last.items;
  neighbours : AreNeighbours l.snapshot l.column l.spread.pairs.items;
  few : length l.spread.pairs.items ≤ l.count;
}
