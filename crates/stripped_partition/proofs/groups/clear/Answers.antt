use Rattle.std.proofs.Common.{◌+◌, ℕ, sym, ap, ◌∙◌, subst, List, replicate}
use Rattle.stripped_partition.proofs.Counts.{Clears, clears_set, clears_skip, clears_all}
use Rattle.stripped_partition.proofs.groups.clear.Goals as goal
use Rattle.stripped_partition.proofs.groups.clear.Goals.{then-slot-slots, else-slot-slots}

pub loop-code-preserved : goal.loop-code-preserved
loop-code-preserved c = elim c.if-slot-slots.branch [
  | then-slot-slots w ↦ subst (λ (slots : List ℕ). Clears slots c.args.codes.now (c.loop-code.code-index + 1)) (sym w.slots-is)
      (clears_set c.loop-code.slots c.args.codes.now c.loop-code.code-index c.loop-code-test.true w.if-slot-slots.true c.loop-code.invariant)
  | else-slot-slots w ↦ subst (λ (slots : List ℕ). Clears slots c.args.codes.now (c.loop-code.code-index + 1)) (sym w.slots-is)
      (clears_skip c.loop-code.slots c.args.codes.now c.loop-code.code-index c.loop-code-test.true w.if-slot-slots.false c.loop-code.invariant)
]

pub returns : goal.returns
returns c = clears_all c.loop-code.slots c.args.codes.now c.loop-code.code-index c.loop-code-test.false c.loop-code.invariant ∙ ap (λ (n : ℕ). replicate n 0) c.loop-code.auto.slots
