use Rattle.std.proofs.Common.{◌≡◌, ◌∙◌, ap, sym, Some, [], arith}
use Rattle.std.proofs.lemmas.List.Elements.{All-pop}
use Rattle.ports.specs.Memory.{empty_room}
use Rattle.ports.specs.Files.{ForWriting, with_file}
use Rattle.ports.specs.Lists.{look_up}
use Rattle.ports.proofs.Places.{IsPlaceOf-named, name-at}
use Rattle.ports.proofs.Opened.{IsNamed-more, told-idle, told-placed}
use Rattle.ports.proofs.mem_shelf.MemShelfShelf.create.Goals as goal

pub invariant_of-self-2 : goal.invariant_of-self-2
invariant_of-self-2 c =
    let kept = c.self.invariant in
    let placed = c.place_for.ensures in
    let popped = All-pop (λ buffer. buffer ≡ empty_room c.self.inside.room) _ _ c.pop.result c.pop.ensures.items kept.blank in
    let blank = rw c.unwrap.ensures at popped.1 in
    let fewer = rw c.unwrap.ensures at c.pop.ensures.len in
    record {
      opened = (IsPlaceOf-named _ _ _ placed.place, ap (λ buffer. buffer.room) blank);
      read_last = IsNamed-more _ _ c.self.inside.reads.last placed.names kept.read_last;
      write_last = IsNamed-more _ _ c.self.inside.writes.last placed.names kept.write_last;
      blank = popped.0;
      spare = omega (arith, placed.more, placed.capacity, kept.spare, fewer);
      largest = kept.largest;
    }

pub returns-clause-opened : goal.returns-clause-opened
returns-clause-opened c = ap ForWriting (name-at _ _ _ ([], []) c.place_for.ensures.place)

pub returns-clause-content : goal.returns-clause-content
returns-clause-content c =
    let s = c.self.inside in
    let name = c.args.name in
    let placed = c.place_for.ensures in
    let popped = All-pop (λ buffer. buffer ≡ empty_room s.room) _ _ c.pop.result c.pop.ensures.items c.self.invariant.blank in
    let blank = ap (λ buffer. buffer.held) (rw c.unwrap.ensures at popped.1) in
    let idle = rw (← c.self.view_is) at c.requires in
    let files = sym (told-idle s.files.items s.«open» s.at s.buffer.held idle) ∙ ap (λ shelf. shelf.files) c.self.view_is in
    ap Some (rw blank (told-placed name [] _ _ placed.place) ∙ placed.others [] ∙ ap (λ kept. with_file name [] (look_up kept)) files)
