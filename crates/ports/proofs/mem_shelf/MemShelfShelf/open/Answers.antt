use Rattle.std.proofs.Common.{◌∙◌, ap, sym, refl, Some, None, [], arith}
use Rattle.std.specs.List.{position}
use Rattle.std.proofs.Math.Bool.{or-true}
use Rattle.ports.specs.Files.{ForReading, bytes_of}
use Rattle.ports.specs.Lists.{has_name, look_up}
use Rattle.ports.proofs.Places.{IsPlaceOf-from_position, IsPlaceOf-named, look_up-at}
use Rattle.ports.proofs.Opened.{told-idle, from_start-at}
use Rattle.ports.proofs.mem_shelf.MemShelfShelf.open.Goals as goal
use Rattle.ports.proofs.mem_shelf.MemShelfShelf.open.Goals.{in_default-via-in-Some+else-not-listed, in_default-via-in_default}

pub invariant_of-self : goal.invariant_of-self
invariant_of-self c =
    let kept = c.self.invariant in
    let place = IsPlaceOf-from_position c.args.name c.self.inside.files.items (Some c.in-Some.place) (c.in-Some.ensures ∙ ap (position (has_name c.args.name)) c.deref.ensures.value) in
    record {
      opened = (IsPlaceOf-named _ _ _ place, omega arith);
      read_last = kept.read_last;
      write_last = kept.write_last;
      blank = kept.blank;
      spare = kept.spare;
      largest = kept.largest;
    }

pub returns-in-Some-clause-opened : goal.returns-in-Some-clause-opened
returns-in-Some-clause-opened c =
    let s = c.self.inside in
    let place = IsPlaceOf-from_position c.args.name s.files.items (Some c.in-Some.place) (c.in-Some.ensures ∙ ap (position (has_name c.args.name)) c.deref.ensures.value) in
    let idle = rw (← c.self.view_is) at c.requires in
    from_start-at _ _ _ place ∙ ap (λ files. ForReading c.args.name (Some (bytes_of (look_up files) c.args.name))) (sym (told-idle s.files.items s.«open» s.at s.buffer.held idle) ∙ ap (λ shelf. shelf.files) c.self.view_is)

pub returns-in-Some-clause-fails : goal.returns-in-Some-clause-fails
returns-in-Some-clause-fails c =
    let s = c.self.inside in
    let place = IsPlaceOf-from_position c.args.name s.files.items (Some c.in-Some.place) (c.in-Some.ensures ∙ ap (position (has_name c.args.name)) c.deref.ensures.value) in
    let idle = rw (← c.self.view_is) at c.requires in
    let found = ap (λ files. look_up files c.args.name) (told-idle s.files.items s.«open» s.at s.buffer.held idle) ∙ look_up-at _ _ _ ([], []) place in
    let due = c.if-not-listed.ensures.due in
    rw (← c.self.view_is, found, ← due) refl

pub returns-in_default-clause-fails : goal.returns-in_default-clause-fails
returns-in_default-clause-fails c =
    let s = c.self.inside in
    let idle = rw (← c.self.view_is) at c.requires in
    let same = ap (λ files. look_up files c.args.name) (told-idle s.files.items s.«open» s.at s.buffer.held idle) in
    elim c.in_default.branch [
      | in_default-via-in-Some+else-not-listed w ↦ let due = w.if-not-listed.ensures.due in rw (← c.self.view_is, ← due) refl
      | in_default-via-in_default w ↦
          let none = IsPlaceOf-from_position c.args.name s.files.items None (w.in_default.ensures ∙ ap (position (has_name c.args.name)) c.deref.ensures.value) in
          let found = same ∙ none in
          rw (← c.self.view_is, found, or-true) refl
    ]
