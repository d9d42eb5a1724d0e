use Rattle.std.proofs.Common.{◌≡◌, ◌∙◌, ◌++◌, ◌∷◌, [], ℕ, List, length, map, ap, ap₂, arith, sym}
use Rattle.std.proofs.lemmas.List.{map_push}
use Rattle.col_set.specs.ColSet.{upto}
use Rattle.nary_ind.specs.declared.found.Side.{Side}
use Rattle.nary_ind.specs.declared.found.Group.{Group}
use Rattle.nary_ind.specs.Levels.{grouped}
use Rattle.nary_ind.proofs.Levels.{groups-zero}
use Rattle.nary_ind.proofs.Widening.{upto-more}
use Rattle.nary_ind.proofs.level.first_level.Goals as goal

pub loop-relation-preserved : goal.loop-relation-preserved
loop-relation-preserved c =
    let made : Group = record { side = c.bare.result; into = c.in_ok-bare_lists.field-0 } in
    let same : grouped made ≡ (record { rel = c.loop-relation.relation; columns = [] }, map (λ q. record { rel = q; columns = [] }) (upto (length c.args.known.now))) =
    ap₂ (λ (s : Side) (is : List Side). (s, is)) c.bare.ensures (c.in_ok-bare_lists.ensures ∙ ap (λ (m : ℕ). map {B = Side} (λ q. record { rel = q; columns = [] }) (upto m)) c.len-in-loop-relation.ensures) in
    ap (map grouped) c.in_ok-push.ensures.items ∙ map_push grouped c.loop-relation.level.items made
    ∙ ap₂ (λ (xs : List (Side × List Side)) (x : Side × List Side). xs ++ x ∷ []) c.loop-relation.invariant same
    ∙ sym (upto-more {Y = Side × List Side} (λ p. (record { rel = p; columns = [] }, map (λ q. record { rel = q; columns = [] }) (upto (length c.args.known.now)))) c.loop-relation.relation)

pub returns : goal.returns
returns c =
    let e : c.loop-relation.relation ≡ length c.args.known.now = let a = c.loop-relation.auto.relation-end in let f = c.loop-relation-test.false in let m = c.len-relation-end.ensures in omega arith in
    c.loop-relation.invariant
    ∙ ap (λ (m : ℕ). map {B = Side × List Side} (λ p. (record { rel = p; columns = [] }, map (λ q. record { rel = q; columns = [] }) (upto (length c.args.known.now)))) (upto m)) e ∙ sym (groups-zero c.args.known.now)
