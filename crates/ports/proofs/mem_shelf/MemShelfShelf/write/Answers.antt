use Rattle.std.proofs.Common.{◌≡◌, ◌<◌, ◌≤◌, ◌∙◌, ap, sym, length, take, min, false, Some, rules}
use Rattle.std.proofs.lemmas.List.{take-take}
use Rattle.ports.specs.Memory.{write_answer}
use Rattle.ports.proofs.Moving.{write_answer-some}
use Rattle.ports.proofs.Places.{place-lt}
use Rattle.ports.proofs.Opened.{told-more, bytes-written}
use Rattle.ports.proofs.mem_shelf.MemShelfShelf.write.Goals as goal

pub invariant_of-self : goal.invariant_of-self
invariant_of-self c =
    let kept = c.self.invariant in
    let here = rw c.in-Writing.is at kept.opened in
    record {
      opened = kept.opened;
      read_last = kept.read_last;
      write_last = rw c.rise.ensures.last (place-lt _ _ _ here.0);
      blank = kept.blank;
      spare = kept.spare;
      largest = kept.largest;
    }

pub invariant_of-self-in-0 : goal.invariant_of-self-in-0
invariant_of-self-in-0 c =
    let kept = c.self.invariant in
    let here = rw c.in-Writing.is at kept.opened in
    record {
      opened = rw c.in-Writing.is (here.0, c.append_first.ensures.room ∙ here.1);
      read_last = kept.read_last;
      write_last = rw c.rise-in-0.ensures.last (place-lt _ _ _ here.0);
      blank = kept.blank;
      spare = kept.spare;
      largest = kept.largest;
    }

pub returns-in_default-append_first-clause-appended :
    goal.returns-in_default-append_first-clause-appended
returns-in_default-append_first-clause-appended c =
    let here = rw c.in-Writing.is at c.self.invariant.opened in
    let short : c.append_first.result ≤ c.min-most.result = search rules in (
      search rules,
      search rules,
      rw (← c.self.view_is, c.in-Writing.is, c.append_first.ensures.held, take-take)
          (ap Some (told-more _ _ c.self.inside.buffer.held _ here.0)),
    )

pub returns-in-0-clause-answer : goal.returns-in-0-clause-answer
returns-in-0-clause-answer c =
    let s = c.self.inside in
    let here = rw c.in-Writing.is at c.self.invariant.opened in
    let due = c.if-begin.ensures.due in
    let written = bytes-written _ _ s.buffer.held here.0 in
    let size : length (take c.min-most.result c.args.piece.now) ≡ min (length c.args.piece.now) s.largest = search rules in
    rw (← c.self.view_is, c.in-Writing.is, ← due, written, ← here.1, ← size) (ap (write_answer false) (sym c.in-0.is ∙ c.append_first.ensures.count))

pub returns-in_default-append_first-clause-answer :
    goal.returns-in_default-append_first-clause-answer
returns-in_default-append_first-clause-answer c =
    let s = c.self.inside in
    let here = rw c.in-Writing.is at c.self.invariant.opened in
    let due = c.if-begin.ensures.due in
    let written = bytes-written _ _ s.buffer.held here.0 in
    let some : 0 < c.append_first.result = search rules in
    let size : length (take c.min-most.result c.args.piece.now) ≡ min (length c.args.piece.now) s.largest = search rules in
    rw (← c.self.view_is, c.in-Writing.is, ← due, written, ← here.1, ← size) (write_answer-some _ some ∙ ap (write_answer false) c.append_first.ensures.count)
