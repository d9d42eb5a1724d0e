use Rattle.std.proofs.Common.{◌∙◌, ap, rules}
use Rattle.ports.specs.Files.{bytes_of}
use Rattle.ports.specs.Lists.{look_up}
use Rattle.ports.proofs.Moving.{LeavesRest-copied, ReadMoves-from}
use Rattle.ports.proofs.sure_shelf.SureShelfShelf.read.Goals as goal

pub returns-clause-moved : goal.returns-clause-moved
returns-clause-moved c =
    let s = c.self.inside in
    let copied = c.copy_from-count.ensures in
    let text = c.text_of.ensures ∙ ap (λ files. bytes_of (look_up files) c.in-Some.name) c.deref.ensures.value in
    rw (c.reading_of.ensures, ← c.self.view_is, c.in-Some.is)
    (ReadMoves-from s.at _ _ _ (search rules) (rw text at copied.count) (rw text at copied.copied))

pub returns-clause-rest : goal.returns-clause-rest
returns-clause-rest c =
    rw (c.reading_of.ensures, ← c.self.view_is, c.in-Some.is) (LeavesRest-copied _ _ _ c.copy_from-count.ensures.rest)
