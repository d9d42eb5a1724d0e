use Rattle.std.proofs.Common.{◌∙◌, ◌++◌, ◌∷◌, [], List, ap₂, sym}
use Rattle.nary_ind.specs.declared.found.Side.{Side}
use Rattle.nary_ind.proofs.Widening.{upto-more}
use Rattle.nary_ind.proofs.level.bare_lists.Goals as goal

pub loop-relation-preserved : goal.loop-relation-preserved
loop-relation-preserved c =
    c.in_ok-push.ensures.items ∙ ap₂ (λ (xs : List Side) (x : Side). xs ++ x ∷ []) c.loop-relation.invariant c.bare.ensures ∙ sym (upto-more {Y = Side} (λ p. record { rel = p; columns = [] }) c.loop-relation.relation)
