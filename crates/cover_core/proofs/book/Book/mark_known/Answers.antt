use Rattle.std.proofs.Common.{List, refl, sym, subst}
use Rattle.std.specs.List.{All}
use Rattle.cover_core.specs.KnownLefts.{IsKnownBy}
use Rattle.cover_core.specs.declared.waiting.Waiting.{Waiting}
use Rattle.cover_core.proofs.KnownLefts.{known_target, held_by}
use Rattle.cover_core.proofs.Marked.{seen-all}
use Rattle.cover_core.proofs.book.Book.mark_known.Goals as goal

pub known_by-requires : goal.known_by-requires
known_by-requires c = known_target _ c.args.self.now c.self.inside.snapshot.value c.args.from c.self.invariant.0 c.self.view_is c.args.lefts.now c.requires.lefts

pub mark_held-requires : goal.mark_held-requires
mark_held-requires c =
    seen-all c.args.self.now.rows c.self.inside.snapshot.value c.as_slice.result.now
    (held_by _ c.args.self.now c.self.inside.snapshot.value c.self.inside.snapshot.value c.args.from c.self.invariant.0 c.self.view_is refl c.requires.told c.args.lefts.now c.requires.lefts c.as_slice.result.now
    (subst (λ (ws : List Waiting). All (IsKnownBy c.self.inside.candidates c.args.from c.args.lefts.now) ws) (sym c.as_slice.ensures.value) c.in_ok-found.ensures))
