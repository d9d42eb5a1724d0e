use Rattle.std.proofs.Common.{map, take}
use Rattle.least_sets.specs.Branches.{parts}
use Rattle.least_sets.specs.Growth.{having}
use Rattle.least_sets.proofs.Runs.{OwnedSoFar}
use Rattle.least_sets.proofs.scans.owned_columns_with.Given as goal

abbrev pub invariant-loop-run : goal.invariant-loop-run
invariant-loop-run g l = OwnedSoFar (map (having l.column) (parts l.own (take l.run-index l.runs))) l.fn.free l.owned
