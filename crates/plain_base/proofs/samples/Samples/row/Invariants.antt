use Rattle.std.proofs.Common.{◌≡◌, length}
use Rattle.plain_base.proofs.samples.Samples.row.Given as goal

abbrev pub invariant-loop : goal.invariant-loop
invariant-loop l = length l.drawn.items ≡ l.counter
