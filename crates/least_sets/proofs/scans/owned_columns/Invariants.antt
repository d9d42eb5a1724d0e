use Rattle.std.proofs.Common.{take}
use Rattle.least_sets.specs.Branches.{parts}
use Rattle.least_sets.proofs.Runs.{OwnedSoFar}
use Rattle.least_sets.proofs.scans.owned_columns.Given as goal

abbrev pub invariant-loop-run : goal.invariant-loop-run
invariant-loop-run g l = OwnedSoFar (parts l.own (take l.run-index l.runs)) l.fn.free l.owned
