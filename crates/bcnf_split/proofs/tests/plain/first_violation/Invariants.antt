use Rattle.std.proofs.Common.{◌≡◌, ◌<◌, ◌^◌}
use Rattle.rel_base.specs.RowState.{RowState, width}
use Rattle.rel_base.specs.Validity.{agree_sets}
use Rattle.bcnf_split.proofs.PlainSplit.{Tried}
use Rattle.bcnf_split.proofs.tests.plain.first_violation.Given as goal

abbrev pub invariant-loop-bits : goal.invariant-loop-bits
invariant-loop-bits l = (r : RowState) → agree_sets r ≡ l.sets → width r ≡ l.n → l.s < 2 ^ l.n → Tried r l.s l.bits l.first
