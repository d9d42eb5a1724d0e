use Rattle.std.proofs.Common.{◌∙◌, ◌∷◌, sym, ap, subst, Result, Ok, Err}
use Rattle.std.specs.Prelude.{IfOk}
use Rattle.rel_base.specs.RowState.{width}
use Rattle.batch_update.specs.declared.item.Item.{Item}
use Rattle.batch_update.specs.declared.item.Item.TheVariants.{Report}
use Rattle.cover_steps.specs.Core.{Core}
use Rattle.profile_text.specs.Items.{IsAnswerable}
use Rattle.profile_text.specs.Waiting.{text_with}
use Rattle.profile_text.proofs.Waits.{AreWaiting-faulty, AreWaiting-sound, text-faulty, text-reported, text-sound}
use Rattle.profile_text.proofs.session.Session.after.Goals as goal

IfOk-from : {T E : Type 0} (r : Result T E) {P Q R S U : T → Type 0} → ((x : T) → P x → Q x → R x → S x → U x) → IfOk r P → IfOk r Q → IfOk r R → IfOk r S → IfOk r U
IfOk-from (Ok x) f p q r s = f x p q r s
IfOk-from (Err e) f p q r s = tt

pub returns-in_ok-push-in-Batch-2-clause-text : goal.returns-in_ok-push-in-Batch-2-clause-text
returns-in_ok-push-in-Batch-2-clause-text g c more =
    let self = c.args.self in
    text-sound c.args.name.now self.lines self.book.rows (width self.book.rows) self.asked.items c.push.new.self.items self.batches.items c.push-in-Batch.new.self.items c.in-Batch.no c.in-Batch.first c.in-Batch.batch more
    c.requires.asked c.in_ok-push-in-Batch.ensures.items c.in_ok-push-in-Batch-2.ensures.items
    ∙ ap (λ (item : Item). text_with c.args.name.now self.lines self.book.rows self.asked.items self.batches.items (item ∷ more)) (sym c.in-Batch.is)

pub returns-in_ok-push-in-Batch-2-clause-waits : goal.returns-in_ok-push-in-Batch-2-clause-waits
returns-in_ok-push-in-Batch-2-clause-waits g c =
    let self = c.args.self in
    AreWaiting-sound (width self.book.rows) self.asked.items c.push.new.self.items self.batches.items c.push-in-Batch.new.self.items c.in-Batch.no c.in-Batch.first c.in-Batch.batch
    c.requires.asked (subst (IsAnswerable (width self.book.rows)) c.in-Batch.is c.requires.item) c.in_ok-push-in-Batch.ensures.items c.in_ok-push-in-Batch-2.ensures.items

pub returns-in_ok-push-in-Bad-clause-text : goal.returns-in_ok-push-in-Bad-clause-text
returns-in_ok-push-in-Bad-clause-text g c more =
    let self = c.args.self in
    text-faulty c.args.name.now self.lines self.book.rows (width self.book.rows) self.asked.items c.push-in-Bad.new.self.items self.batches.items c.in-Bad.no c.in-Bad.rec c.in-Bad.why more
    c.requires.asked c.in_ok-push-in-Bad.ensures.items
    ∙ ap (λ (item : Item). text_with c.args.name.now self.lines self.book.rows self.asked.items self.batches.items (item ∷ more)) (sym c.in-Bad.is)

pub returns-in_ok-push-in-Bad-clause-waits : goal.returns-in_ok-push-in-Bad-clause-waits
returns-in_ok-push-in-Bad-clause-waits g c =
    let self = c.args.self in
    AreWaiting-faulty (width self.book.rows) self.asked.items c.push-in-Bad.new.self.items self.batches.items c.in-Bad.no c.in-Bad.rec c.in-Bad.why
    c.requires.asked (subst (IsAnswerable (width self.book.rows)) c.in-Bad.is c.requires.item) c.in_ok-push-in-Bad.ensures.items

pub returns-in_ok-session-in-Report-clause-text : goal.returns-in_ok-session-in-Report-clause-text
returns-in_ok-session-in-Report-clause-text g c =
    let self = c.args.self in
    let name = c.args.name.now in
    let session = c.in_ok-session-in-Report.session in
    IfOk-from c.reported.result
    (λ s text book asked batches more.
    text-reported name session.lines s.lines session.book.rows s.book.rows s.asked.items s.batches.items more (text_with name self.lines self.book.rows self.asked.items self.batches.items (c.args.item ∷ more))
    text (ap (λ (b : Core). b.rows) book) (asked ∙ c.in_ok-session-in-Report.ensures.asked) (batches ∙ c.in_ok-session-in-Report.ensures.batches)
    (c.in_ok-session-in-Report.ensures.text name (Report ∷ more) ∙ ap (λ (item : Item). text_with name self.lines self.book.rows self.asked.items self.batches.items (item ∷ more)) (sym c.in-Report.is)))
    c.reported.ensures.text c.reported.ensures.book c.reported.ensures.asked c.reported.ensures.batches
