use Rattle.std.proofs.Common.{◌≡◌, ◌<◌, ◌∙◌, ap, length, min, drop, false, [], rules}
use Rattle.std.proofs.lemmas.List.{get_or_read}
use Rattle.ports.specs.Lists.{file_at}
use Rattle.ports.specs.Memory.{read_answer}
use Rattle.ports.proofs.Moving.{LeavesRest-front, ReadMoves-from, ReadMoves-wider, within-read}
use Rattle.ports.proofs.Places.{place-lt}
use Rattle.ports.proofs.mem_shelf.MemShelfShelf.read.Goals as goal

pub invariant_of-self : goal.invariant_of-self
invariant_of-self c =
    let kept = c.self.invariant in
    let here = rw c.in-Reading.is at kept.opened in
    record {
      opened = kept.opened;
      read_last = rw c.rise.ensures.last (place-lt _ _ _ here.0);
      write_last = kept.write_last;
      blank = kept.blank;
      spare = kept.spare;
      largest = kept.largest;
    }

pub index-requires : goal.index-requires
index-requires c =
    let here = rw c.in-Reading.is at c.self.invariant.opened in
    let lt = place-lt _ _ _ here.0 in
    search rules

pub invariant_of-self-2 : goal.invariant_of-self-2
invariant_of-self-2 c =
    let kept = c.self.invariant in
    let here = rw c.in-Reading.is at kept.opened in
    let text = c.bytes.ensures ∙ ap (λ file. file.1) (get_or_read c.self.inside.files.items _ _ (place-lt _ _ _ here.0) c.index.ensures ([], [])) in
    record {
      opened = rw c.in-Reading.is (here.0, within-read _ _ _ _ here.1 (rw text at c.copy_from-count.ensures.count));
      read_last = kept.read_last;
      write_last = kept.write_last;
      blank = kept.blank;
      spare = kept.spare;
      largest = kept.largest;
    }

pub returns-clause-moved : goal.returns-clause-moved
returns-clause-moved c =
    let s = c.self.inside in
    let here = rw c.in-Reading.is at c.self.invariant.opened in
    let copied = c.copy_from-count.ensures in
    let text = c.bytes.ensures ∙ ap (λ file. file.1) (get_or_read s.files.items _ _ (place-lt _ _ _ here.0) c.index.ensures ([], [])) in
    let room : 0 < length c.copy_from-count.new.buffer = search (rules, c.self.invariant.largest) in
    rw (c.reading_of.ensures, ← c.self.view_is, c.in-Reading.is)
    (ReadMoves-wider _ c.copy_from-count.new.buffer _ _ _ (ReadMoves-from s.at _ _ _ room (rw text at copied.count) (rw text at copied.copied)))

pub returns-clause-rest : goal.returns-clause-rest
returns-clause-rest c =
    let copied = c.copy_from-count.ensures in
    rw c.reading_of.ensures (LeavesRest-front c.copy_from-count.result c.min-most.result c.args.buffer.now c.copy_from-count.new.buffer (search rules) (search rules) copied.rest)

pub returns-clause-answer : goal.returns-clause-answer
returns-clause-answer c =
    let s = c.self.inside in
    let here = rw c.in-Reading.is at c.self.invariant.opened in
    let text = c.bytes.ensures ∙ ap (λ file. file.1) (get_or_read s.files.items _ _ (place-lt _ _ _ here.0) c.index.ensures ([], [])) in
    let room : length c.copy_from-count.new.buffer ≡ min (length c.args.buffer.now) s.largest = search rules in
    let due = c.if-begin.ensures.due in
    rw (c.reading_of.ensures, ← c.self.view_is, c.in-Reading.is, ← due)
    (ap (read_answer false) (rw text at c.copy_from-count.ensures.count ∙ ap (min (length (drop s.at (file_at s.files.items c.in-Reading.place).1))) room))
