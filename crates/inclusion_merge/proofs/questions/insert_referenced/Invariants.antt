use Rattle.std.proofs.Common.{◌≡◌, ℕ, true, take}
use Rattle.col_set.specs.Lists.{Listed}
use Rattle.inclusion_merge.specs.WideSet.{has_wide}
use Rattle.inclusion_merge.proofs.questions.insert_referenced.Given as goal

abbrev pub invariant-loop-pair : goal.invariant-loop-pair
invariant-loop-pair l = record {
  grows : (k : ℕ) → has_wide l.initial.named k ≡ true → has_wide l.named k ≡ true;
  each : (p : ℕ × ℕ) → Listed p (take l.pair-index l.pairs) → has_wide l.named p.1 ≡ true;
}
