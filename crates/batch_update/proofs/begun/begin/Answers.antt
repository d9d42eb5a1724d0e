use Rattle.std.proofs.Common.{◌≡◌, ◌∙◌, ◌∷◌, ◌++◌, [], ap}
use Rattle.batch_update.specs.Coming.{coming}
use Rattle.batch_update.proofs.Steps.{begins_end, begins_fault, begins_operation, begins_report, listed, unlisted}
use Rattle.batch_update.proofs.begun.begin.Goals as goal

pub returns-in_ok-push-in-Operation : goal.returns-in_ok-push-in-Operation
unfolding coming
returns-in_ok-push-in-Operation c = λ left.
    let ops : c.push.new.self ≡ c.in-Operation.op ∷ [] = c.in_ok-push-in-Operation.ensures.pushed ∙ ap (λ xs. xs ++ c.in-Operation.op ∷ []) c.new-batch.ensures in
    unlisted c.args.items.now.items _ _ (rw (c.in-Operation.is, ops) (begins_operation c.args.place.no c.args.place.rec c.in-Operation.op left))

pub returns-in_ok-push-in-End : goal.returns-in_ok-push-in-End
returns-in_ok-push-in-End c = λ left.
    listed c.args.items.now.items c.push-in-End.new.self.items _ _ _ c.in_ok-push-in-End.ensures.items
    (rw (c.in-End.is, c.new.ensures) (begins_end c.args.place.no c.args.place.rec left))

pub returns-in_ok-push-in-Report : goal.returns-in_ok-push-in-Report
returns-in_ok-push-in-Report c = λ left.
    listed c.args.items.now.items c.push-in-Report.new.self.items _ _ _ c.in_ok-push-in-Report.ensures.items
    (rw c.in-Report.is (begins_report c.args.place.no c.args.place.rec left))

pub returns-in-Malformed : goal.returns-in-Malformed
returns-in-Malformed c = λ left.
    unlisted c.args.items.now.items _ _ (rw c.in-Malformed.is (begins_fault c.args.place.no c.args.place.rec c.in-Malformed.why left))
