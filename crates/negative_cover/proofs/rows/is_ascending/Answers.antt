use Rattle.std.proofs.Common.{Bool, true, false, IsTrue}
use Rattle.std.specs.Bool.{MatchBool}
use Rattle.std.proofs.lemmas.Bool.{false≢true}
use Rattle.std.proofs.lemmas.List.Sorted.{non_decreasing_from_is_sorted}
use Rattle.negative_cover.proofs.rows.is_ascending.Goals as goal

when_true : (b : Bool) (P Q : Type 0) → MatchBool b P Q → IsTrue b → P
when_true true P Q h e = h
when_true false P Q h e = absurd (false≢true e)

pub returns : goal.returns
returns c = when_true c.is_sorted.result _ _ (non_decreasing_from_is_sorted c.args.rows.now c.is_sorted.result c.is_sorted.ensures.cases)
