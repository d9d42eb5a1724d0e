use Rattle.std.proofs.Common.{◌≡◌, map, replicate, vec_len}
use Rattle.col_set.specs.ColSet.{empty, upto, with}
use Rattle.stripped_partition.specs.Stripped.{error_of, stripped}
use Rattle.stripped_partition.proofs.weighing.weights.Given as goal

abbrev pub invariant-loop-column : goal.invariant-loop-column
invariant-loop-column l =
    (l.weights.items ≡ map (λ k. error_of (stripped l.snapshot (with empty k))) (upto l.column)) × (l.slots.items ≡ replicate (vec_len l.slots) 0)
