use Rattle.std.proofs.Common.{◌∙◌, ◌++◌, List, length, ap}
use Rattle.rel_base.specs.RowState.{RowState, width}
use Rattle.profile_text.specs.declared.session.Asked.{Asked}
use Rattle.profile_text.specs.Session.{answers}
use Rattle.profile_text.specs.Waiting.{waiting}
use Rattle.profile_text.proofs.Waits.{AreWaiting-wide, told_by, text-answered, width-after_all}
use Rattle.profile_text.proofs.session.Session.answered.Goals as goal

pub refined-requires-clause-wide : goal.refined-requires-clause-wide
refined-requires-clause-wide g c κs within = AreWaiting-wide (width c.args.self.book.rows) c.args.self.asked.items c.args.self.batches.items c.requires.asked

pub returns-clause-text : goal.returns-clause-text
returns-clause-text g c name more =
    let r : RowState = c.args.self.book.rows in
    let asked : List Asked = c.args.self.asked.items in
    let batches = c.args.self.batches.items in
    let told = told_by r asked c.deref.result.now batches c.in_ok-book.field-0.replies.items c.deref-2.result.now c.live_len-live.result c.rows.ensures.sound.rows
    (c.live_len-live.ensures.value ∙ ap (λ (s : RowState). length s.live) c.rows.ensures.rows) c.requires.asked c.in_ok-book.ensures.batches.replies c.deref.ensures.value c.deref-2.ensures.value in
    text-answered name c.args.self.lines c.push_answers.new.lines r c.in_ok-book.field-0.book.rows (width r) asked batches more c.requires.asked
    (c.in_ok-push_answers.ensures r batches told name ∙ ap (λ (these : List Asked). c.args.self.lines ++ answers name r (waiting these batches)) c.deref.ensures.value)
    c.in_ok-book.ensures.batches.rows

pub returns-clause-wide : goal.returns-clause-wide
returns-clause-wide g c = ap width c.in_ok-book.ensures.batches.rows ∙ width-after_all c.args.self.book.rows c.args.self.batches.items
