use Rattle.std.proofs.Common.{◌∙◌, ap, sym, Some, None, [], cond}
use Rattle.std.specs.List.{position}
use Rattle.std.proofs.lemmas.List.{get_or_read}
use Rattle.ports.specs.Lists.{has_name, file_at}
use Rattle.ports.proofs.Places.{IsPlaceOf-from_position, place-lt}
use Rattle.ports.proofs.Opened.{told-at, told-none}
use Rattle.ports.proofs.mem_shelf.MemShelf.file.Goals as goal

pub returns-in_err-place : goal.returns-in_err-place
returns-in_err-place c =
    let s = c.self.inside in
    let none = IsPlaceOf-from_position c.args.name.now s.files.items None (c.in_err-place.ensures ∙ ap (position (has_name c.args.name.now)) c.deref.ensures.value) in
    rw (c.from_residual.ensures, ← c.self.view_is) (sym (told-none _ _ s.«open» s.at s.buffer s.room c.self.invariant.opened none))

pub returns-then-is_written : goal.returns-then-is_written
returns-then-is_written c =
    let s = c.self.inside in
    let place = IsPlaceOf-from_position c.args.name.now s.files.items (Some c.in_ok-place.place) (c.in_ok-place.ensures ∙ ap (position (has_name c.args.name.now)) c.deref.ensures.value) in
    let told = told-at _ _ s.«open» s.at s.buffer s.room _ c.self.invariant.opened place in
    rw (c.bytes.ensures.value, ← c.self.view_is)
    (ap (λ b. Some (cond b s.buffer.held (file_at s.files.items c.in_ok-place.place).1)) c.if-is_written.ensures ∙ sym told)

pub returns-else-is_written : goal.returns-else-is_written
returns-else-is_written c =
    let s = c.self.inside in
    let place = IsPlaceOf-from_position c.args.name.now s.files.items (Some c.in_ok-place.place) (c.in_ok-place.ensures ∙ ap (position (has_name c.args.name.now)) c.deref.ensures.value) in
    let told = told-at _ _ s.«open» s.at s.buffer s.room _ c.self.invariant.opened place in
    let text = c.bytes-else-is_written.ensures ∙ ap (λ file. file.1) (get_or_read s.files.items _ _ (place-lt _ _ _ place) c.index.ensures ([], [])) in
    rw (text, ← c.self.view_is)
    (ap (λ b. Some (cond b s.buffer.held (file_at s.files.items c.in_ok-place.place).1)) c.if-is_written.ensures ∙ sym told)
