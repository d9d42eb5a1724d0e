use Rattle.std.proofs.Common.{◌∙◌, Some, None, unwrap_or, [], ap, sym, rules}
use Rattle.ports.proofs.Places.{IsPlaceOf-from_position, place-lt, look_up-at}
use Rattle.ports.proofs.files.text_of.Goals as goal

pub offset_bounds-files-place : goal.offset_bounds-files-place
offset_bounds-files-place c =
    let lt = place-lt _ _ _ (IsPlaceOf-from_position c.args.name.now c.args.files.now (Some c.in-Some.place) c.in-Some.ensures) in
    search rules

pub bounds-files-place : goal.bounds-files-place
bounds-files-place c = place-lt _ _ _ (IsPlaceOf-from_position c.args.name.now c.args.files.now (Some c.in-Some.place) c.in-Some.ensures)

pub returns-in-Some : goal.returns-in-Some
returns-in-Some c =
    let is = IsPlaceOf-from_position c.args.name.now c.args.files.now (Some c.in-Some.place) c.in-Some.ensures in
    c.bytes.ensures ∙ sym (ap (λ found. unwrap_or found []) (look_up-at _ _ _ c.index-files-place.result is))

pub returns-in-None : goal.returns-in-None
returns-in-None c = sym (ap (λ found. unwrap_or found []) (IsPlaceOf-from_position c.args.name.now c.args.files.now None c.in-None.ensures))
