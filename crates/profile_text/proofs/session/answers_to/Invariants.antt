use Rattle.std.proofs.Common.{◌≡◌, length, drop}
use Rattle.rel_base.specs.RowState.{width}
use Rattle.profile_text.specs.Session.{answers}
use Rattle.profile_text.specs.Waiting.{text_with, AreWaiting}
use Rattle.profile_text.proofs.session.answers_to.Given as goal

abbrev pub invariant-loop-item : goal.invariant-loop-item
invariant-loop-item g l = record {
  text : text_with l.name l.session.lines l.session.book.rows l.session.asked.items l.session.batches.items (drop (length l.yielded) l.fn.items.items) ≡ answers l.name l.fn.book.rows l.fn.items.items;
  waits : AreWaiting (width l.session.book.rows) l.session.asked.items l.session.batches.items;
  wide : width l.session.book.rows ≡ width l.fn.book.rows;
}
