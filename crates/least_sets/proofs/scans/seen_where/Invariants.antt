use Rattle.std.proofs.Common.{if◌then◌else◌, not, take}
use Rattle.std.specs.List.{filter}
use Rattle.col_set.specs.ColSet.{has}
use Rattle.least_sets.proofs.Runs.{SeenSoFar}
use Rattle.least_sets.proofs.scans.seen_where.Given as goal

abbrev pub invariant-loop-w : goal.invariant-loop-w
invariant-loop-w g l = SeenSoFar (filter (λ w. if l.wanted then has w l.column else not (has w l.column)) (take l.w-index l.sets)) l.columns l.left
