use Rattle.std.proofs.Common.{◌≡◌, ◌<◌, ℕ, true, false, List, length, get_or}
use Rattle.col_set.specs.Lists.{Listed}
use Rattle.inclusion_merge.specs.Marks.{is_marked}
use Rattle.inclusion_merge.specs.Sharing.{list_at}
use Rattle.inclusion_merge.proofs.questions.Questions.wholly_asked.Given as goal

abbrev pub invariant-loop-column : goal.invariant-loop-column
invariant-loop-column l = record {
  count : length l.whole.items ≡ l.column-index;
  each : (c : ℕ) → c < l.column-index → get_or l.whole.items c false ≡ true → (a : List ℕ) → Listed a (list_at l.columns c) → is_marked l.self.values a ≡ true;
}
