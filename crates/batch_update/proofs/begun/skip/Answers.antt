use Rattle.std.proofs.Common.{◌≡◌, ◌∙◌, sym, true, false}
use Rattle.batch_update.specs.Entry.{is_end}
use Rattle.batch_update.proofs.Steps.{ends_fault, listed, skips, unlisted}
use Rattle.batch_update.proofs.begun.skip.Goals as goal

pub returns-then-not-is_end : goal.returns-then-not-is_end
returns-then-not-is_end c = λ left.
    let goes : is_end c.args.entry ≡ false = sym c.is_end.ensures ∙ c.if-not-is_end.true in
    unlisted c.args.items.now.items _ _ (rw goes (skips c.args.place.no c.args.place.rec c.args.rec c.args.why c.args.entry left goes))

pub returns : goal.returns
returns c = λ left.
    let stops : is_end c.args.entry ≡ true = sym c.is_end.ensures ∙ c.if-not-is_end.false in
    listed c.args.items.now.items c.push.new.self.items _ _ _ c.in_ok-push.ensures.items
    (rw stops (ends_fault c.args.place.no c.args.place.rec c.args.rec c.args.why c.args.entry left stops))
