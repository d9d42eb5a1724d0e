use Rattle.std.proofs.Common.{◌≡◌, ◌∙◌, ap, Some, None, length, rules}
use Rattle.std.specs.List.{position}
use Rattle.ports.specs.Lists.{has_name}
use Rattle.ports.proofs.Places.{IsPlaceOf-from_position, IsPlaceOf-push, with_file-push}
use Rattle.ports.proofs.files.place_for.Goals as goal

pub returns-in-Some-clause-place : goal.returns-in-Some-clause-place
returns-in-Some-clause-place c =
    IsPlaceOf-from_position c.args.name c.args.files.now.items (Some c.in-Some.place) (c.in-Some.ensures ∙ ap (position (has_name c.args.name)) c.deref.ensures.value)

pub returns-in-None-clause-place : goal.returns-in-None-clause-place
returns-in-None-clause-place c =
    let files = c.args.files.now.items in
    let none = IsPlaceOf-from_position c.args.name files None (c.in-None.ensures ∙ ap (position (has_name c.args.name)) c.deref.ensures.value) in
    let place : c.len-place.result ≡ length files = search rules in
    rw (c.push_reserved.ensures.items, place) (IsPlaceOf-push c.args.name _ files none)

pub returns-in-None-clause-others : goal.returns-in-None-clause-others
returns-in-None-clause-others c = λ bytes. rw c.push_reserved.ensures.items (with_file-push c.args.name _ bytes c.args.files.now.items)
