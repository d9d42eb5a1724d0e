use Rattle.std.proofs.Common.{◌≡◌}
use Rattle.cover_steps.proofs.new_lists.taken_out.Given as goal

abbrev pub invariant-loop-k : goal.invariant-loop-k
invariant-loop-k l = l.made.items ≡ l.initial.made.items
