use Rattle.std.proofs.Common.{◌≡◌}
use Rattle.stripped_partition.specs.Groups.{cut, start_at}
use Rattle.stripped_partition.proofs.Coding.{Tabled}
use Rattle.stripped_partition.proofs.codes.mark_groups.Given as goal

abbrev pub invariant-loop-k : goal.invariant-loop-k
invariant-loop-k l = (l.start ≡ start_at l.ends l.k) × Tabled (cut 0 l.rows l.ends) l.table l.k
