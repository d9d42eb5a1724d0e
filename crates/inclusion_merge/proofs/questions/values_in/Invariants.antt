use Rattle.std.proofs.Common.{◌≡◌, ◌<◌, ℕ, true, List}
use Rattle.col_set.specs.Lists.{Listed}
use Rattle.inclusion_merge.specs.Marks.{is_marked}
use Rattle.inclusion_merge.specs.Sharing.{list_at}
use Rattle.inclusion_merge.specs.WideSet.{has_wide}
use Rattle.inclusion_merge.proofs.questions.values_in.Given as goal

abbrev pub invariant-loop-place : goal.invariant-loop-place
invariant-loop-place l = (c : ℕ) → c < l.place → has_wide l.named c ≡ true → (a : List ℕ) → Listed a (list_at l.columns c) → is_marked l.values a ≡ true
