use Rattle.std.proofs.Common.{rules}
use Rattle.ports.proofs.Places.{place-lt}
use Rattle.ports.proofs.Opened.{IsNamed-close, IsNamed-set}
use Rattle.ports.proofs.mem_shelf.MemShelfShelf.close.Goals as goal

pub invariant_of-self-in-Reading : goal.invariant_of-self-in-Reading
invariant_of-self-in-Reading c =
    let kept = c.self.invariant in
    let here = rw c.in-Reading.is at kept.opened in
    record {
      opened = tt;
      read_last = rw c.close.ensures.last (IsNamed-close _ c.begin-listed.result _ c.self.inside.reads.last (place-lt _ _ _ here.0) kept.read_last);
      write_last = kept.write_last;
      blank = kept.blank;
      spare = kept.spare;
      largest = kept.largest;
    }

pub index_mut-requires : goal.index_mut-requires
index_mut-requires c =
    let here = rw c.in-Writing.is at c.self.invariant.opened in
    let lt = place-lt _ _ _ here.0 in
    search rules

pub invariant_of-self-in-Writing : goal.invariant_of-self-in-Writing
invariant_of-self-in-Writing c =
    let kept = c.self.invariant in
    let here = rw c.in-Writing.is at kept.opened in
    record {
      opened = tt;
      read_last = IsNamed-set _ _ _ c.self.inside.reads.last kept.read_last;
      write_last = rw c.close-in-Writing.ensures.last (IsNamed-set _ _ _ _ (IsNamed-close _ c.begin-listed.result _ c.self.inside.writes.last (place-lt _ _ _ here.0) kept.write_last));
      blank = kept.blank;
      spare = kept.spare;
      largest = kept.largest;
    }
