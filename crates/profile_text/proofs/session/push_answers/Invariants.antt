use Rattle.std.proofs.Common.{◌++◌, List, drop}
use Rattle.rel_base.specs.RowState.{RowState}
use Rattle.rel_base.specs.declared.batch.Op.{Op}
use Rattle.profile_text.specs.Session.{answers}
use Rattle.profile_text.specs.Waiting.{waiting, AreTold}
use Rattle.profile_text.proofs.Waits.{IsTelling}
use Rattle.profile_text.proofs.session.push_answers.Given as goal

abbrev pub invariant-loop-one : goal.invariant-loop-one
invariant-loop-one l = (r : RowState) (batches : List (List Op)) → AreTold r batches l.asked l.replies l.fn.live
    → IsTelling (drop l.one-index l.asked) l.left l.live l.lines (λ name. l.fn.lines ++ answers name r (waiting l.asked batches))
