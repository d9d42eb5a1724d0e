use Rattle.rel_base.proofs.States.{All-listed}
use Rattle.rel_base.specs.Laws.{IsAgreeSet}
use Rattle.rel_base.proofs.Whole.{least_covers-whole}
use Rattle.rel_base.proofs.laws.covers_are_what_holding_evidence_leaves.Goals as goal

pub returns : goal.returns
returns c r ws is pairs all = least_covers-whole r is ws (λ w h. All-listed (IsAgreeSet r) w ws pairs h) all
