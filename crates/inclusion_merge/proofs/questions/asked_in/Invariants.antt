use Rattle.std.proofs.Common.{◌≡◌, ◌<◌, ℕ, true, length}
use Rattle.inclusion_merge.specs.Asked.{cells_asked}
use Rattle.inclusion_merge.specs.Sharing.{list_at}
use Rattle.inclusion_merge.specs.WideSet.{has_wide}
use Rattle.inclusion_merge.proofs.questions.asked_in.Given as goal

abbrev pub invariant-loop-place : goal.invariant-loop-place
invariant-loop-place l = record {
  count : length (cells_asked l.asked.items) ≡ l.place;
  each : (c : ℕ) → c < l.place → has_wide l.named c ≡ true → list_at (cells_asked l.asked.items) c ≡ list_at l.columns c;
}
