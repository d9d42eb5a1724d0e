use Rattle.std.proofs.Common.{◌≡◌, ◌≤◌, ℕ, true, length, take}
use Rattle.col_set.specs.Evidence.{refuted}
use Rattle.col_set.specs.Lists.{Listed}
use Rattle.least_sets.proofs.draft.count_old.Given as goal

abbrev pub invariant-loop-w : goal.invariant-loop-w
invariant-loop-w l = record {
  bound : l.count ≤ length l.agree_sets;
  old : (w : ℕ) → Listed w (take l.count l.agree_sets) → refuted l.fn.old l.target w ≡ true;
}
