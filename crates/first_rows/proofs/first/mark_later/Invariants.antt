use Rattle.std.proofs.Common.{◌≡◌, ◌≤◌, ◌<◌, ◌⊎◌, length}
use Rattle.first_rows.specs.Marked.{Marked}
use Rattle.first_rows.proofs.first.mark_later.Given as goal

abbrev pub invariant-loop-k : goal.invariant-loop-k
invariant-loop-k l = record {
  marked : Marked l.group l.initial.later l.k l.later;
  some : 0 < l.k;
  bound : (l.k ≤ length l.group) ⊎ (l.k ≡ 1);
}
