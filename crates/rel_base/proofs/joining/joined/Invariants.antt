use Rattle.std.proofs.Common.{◌≡◌, ◌<◌, ◌≤◌, ◌++◌, ℕ, [], length, get_or}
use Rattle.rel_base.proofs.joining.joined.Given as goal

abbrev pub invariant-loop-cells : goal.invariant-loop-cells
invariant-loop-cells l = record {
  place : l.place ≡ length l.yielded;
  long : length l.columns.items ≡ length l.fn.columns.items;
  behind : (j : ℕ) → j < l.place → get_or l.columns.items j [] ≡ get_or l.fn.columns.items j [] ++ get_or l.fn.others.items j [];
  before : (j : ℕ) → l.place ≤ j → get_or l.columns.items j [] ≡ get_or l.fn.columns.items j [];
}
