use Rattle.std.proofs.Common.{refl}
use Rattle.rel_base.specs.declared.why.Why.TheVariants as why
use Rattle.batch_update.specs.declared.entry.Entry.TheVariants.{Malformed, Report}
use Rattle.batch_update.specs.Coming.{coming}
use Rattle.batch_update.proofs.Steps.{ends, faults, goes_on, listed, unlisted}
use Rattle.batch_update.proofs.begun.go_on.Goals as goal

pub returns-in_ok-push-in-Operation : goal.returns-in_ok-push-in-Operation
unfolding coming
returns-in_ok-push-in-Operation c = λ left.
    unlisted c.args.items.now.items _ _
    (rw (c.in-Operation.is, c.in_ok-push-in-Operation.ensures.pushed) (goes_on c.args.place.no c.args.place.rec c.args.first c.args.batch c.in-Operation.op left))

pub returns-in_ok-push-in-End : goal.returns-in_ok-push-in-End
unfolding coming
returns-in_ok-push-in-End c = λ left.
    listed c.args.items.now.items c.push-in-End.new.self.items _ _ _ c.in_ok-push-in-End.ensures.items
    (rw c.in-End.is (ends c.args.place.no c.args.place.rec c.args.first c.args.batch left))

pub returns-in-Report : goal.returns-in-Report
unfolding coming
returns-in-Report c = λ left.
    unlisted c.args.items.now.items _ _ (rw c.in-Report.is (faults c.args.place.no c.args.place.rec c.args.first c.args.batch Report why.Kind left refl refl))

pub returns-in-Malformed : goal.returns-in-Malformed
unfolding coming
returns-in-Malformed c = λ left.
    unlisted c.args.items.now.items _ _
    (rw c.in-Malformed.is (faults c.args.place.no c.args.place.rec c.args.first c.args.batch (Malformed c.in-Malformed.why) c.in-Malformed.why left refl refl))
