use Rattle.std.proofs.Common.{◌≡◌, ◌+◌, ◌<◌, ◌≤◌, ℕ, get_or}
use Rattle.col_set.specs.ColSet.{inter}
use Rattle.inclusion_merge.proofs.candidates.keep_common.Given as goal

abbrev pub invariant-loop-place : goal.invariant-loop-place
invariant-loop-place l = record {
  before : (k : ℕ) → k < l.from → get_or l.kept k 0 ≡ get_or l.initial.kept k 0;
  here : (k : ℕ) → k < l.place → get_or l.kept (l.from + k) 0 ≡ inter (get_or l.initial.kept (l.from + k) 0) (get_or l.shared k 0);
  ahead : (k : ℕ) → l.from + l.place ≤ k → get_or l.kept k 0 ≡ get_or l.initial.kept k 0;
}
