use Rattle.std.proofs.Common.{◌∙◌, ◌++◌, ◌∷◌, [], ℕ, List, ap, sym, le_antisymm}
use Rattle.col_set.specs.ColSet.{upto}
use Rattle.stripped_partition.proofs.OrderLoops.{upto_more}
use Rattle.cover_cert.proofs.comparing.numbers.Goals as goal

pub loop-number-preserved : goal.loop-number-preserved
loop-number-preserved c = c.in_ok-push.ensures.items ∙ ap (λ (ks : List ℕ). ks ++ c.loop-number.number ∷ []) c.loop-number.invariant ∙ sym (upto_more c.loop-number.number)

pub returns : goal.returns
returns c = c.loop-number.invariant ∙ ap upto (le_antisymm c.loop-number.auto.number-end c.loop-number-test.false)
