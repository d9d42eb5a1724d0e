use Rattle.std.proofs.Common.{ℕ, ◌<◌, ◌≤◌, [], get_or}
use Rattle.std.specs.List.{All}
use Rattle.stripped_partition.proofs.tally.Tally.new.Given as goal

abbrev pub invariant-loop-column : goal.invariant-loop-column
invariant-loop-column l = (k : ℕ) → k < l.column → All (λ code. code ≤ l.most) (get_or l.snapshot.codes k [])
