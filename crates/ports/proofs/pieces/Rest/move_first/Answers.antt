use Rattle.std.proofs.Common.{◌≡◌, ◌∙◌, ap, sym, ◌++◌, take, drop, take-append-drop, drop-drop}
use Rattle.ports.proofs.pieces.Rest.move_first.Goals as goal

pub returns-clause-moved : goal.returns-clause-moved
returns-clause-moved c =
    let s = c.self.inside in
    let bytes = s.bytes.items in
    let count = c.copy_from-count.result in
    let moved = take count c.copy_from-count.new.buffer in
    let copied : moved ≡ take count (drop s.at bytes) = c.copy_from-count.ensures.copied ∙ ap (λ text. take count (drop s.at text)) c.deref.ensures.value in
    sym c.self.view_is
    ∙ sym (take-append-drop count (drop s.at bytes))
    ∙ ap (λ piece. piece ++ drop count (drop s.at bytes)) (sym copied)
    ∙ ap (λ rest. moved ++ rest) (drop-drop count s.at bytes)
