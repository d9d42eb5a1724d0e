use Rattle.std.proofs.Common.{◌∙◌, ◌++◌, ◌∷◌, [], ℕ, List, sym, ap}
use Rattle.std.proofs.lemmas.Bool.{eqb-true}
use Rattle.fd_closure.specs.Closure.{has_right_inside}
use Rattle.fd_closure.proofs.Siding.{right_joined}
use Rattle.fd_closure.proofs.sides.put_side.Goals as goal

pub returns-in_ok-push-in-Some : goal.returns-in_ok-push-in-Some
returns-in_ok-push-in-Some c x a =
    ap (λ (s : List (ℕ × ℕ)). has_right_inside s x a) c.in_ok-push-in-Some.ensures.items
    ∙ ap (λ (z : ℕ). has_right_inside (c.pop.new.self.items ++ (c.args.side.0, z) ∷ []) x a) c.union.ensures
    ∙ right_joined c.pop.new.self.items c.in-Some.last c.args.side x a (eqb-true _ _ (sym c.eq.ensures ∙ c.if-eq.true))
    ∙ ap (λ (s : List (ℕ × ℕ)). has_right_inside (s ++ c.args.side ∷ []) x a) (sym c.in-Some.ensures.items)
