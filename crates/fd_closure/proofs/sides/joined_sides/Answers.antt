use Rattle.std.proofs.Common.{◌∙◌, ◌++◌, ◌∷◌, [], ℕ, List, sym, ap, take}
use Rattle.std.proofs.lemmas.List.{take_more}
use Rattle.fd_closure.specs.Closure.{has_right_inside}
use Rattle.fd_closure.proofs.Siding.{right_more}
use Rattle.fd_closure.proofs.sides.joined_sides.Goals as goal

pub loop-side-preserved : goal.loop-side-preserved
loop-side-preserved c x a =
    c.in_ok-put_side.ensures x a
    ∙ right_more c.loop-side.sides.items (take c.loop-side.side-index c.args.single.now) c.side-item.result x a (c.loop-side.invariant x a)
    ∙ ap (λ (s : List (ℕ × ℕ)). has_right_inside s x a)
    (ap (λ (q : ℕ × ℕ). take c.loop-side.side-index c.args.single.now ++ q ∷ []) c.side-item.is
    ∙ sym (take_more c.args.single.now c.loop-side.side-index c.side-item.result c.loop-side-test.true))
