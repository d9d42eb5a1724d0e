use Rattle.std.proofs.Common.{◌≡◌, replicate}
use Rattle.inclusion_merge.proofs.wide_set.parts_of.Given as goal

abbrev pub invariant-loop : goal.invariant-loop
invariant-loop l = l.parts.items ≡ replicate l.counter l.part
