use Rattle.std.proofs.Common.{◌++◌, ◌∷◌, [], ◌∙◌, ℕ, List, map, refl, sym, ap, subst}
use Rattle.std.proofs.lemmas.Bool.{and_parts}
use Rattle.col_set.specs.ColSet.{has, with}
use Rattle.col_set.specs.Members.{has-minus}
use Rattle.least_sets.specs.Growth.{having}
use Rattle.least_sets.specs.Branches.{lacking, parts, join, IsCut}
use Rattle.least_sets.proofs.Branches.{branch_as, branched_as}
use Rattle.least_sets.proofs.Runs.{OwnedSoFar, owned_also}
use Rattle.least_sets.proofs.Soles.{branch_sole}
use Rattle.least_sets.proofs.branching.push_past_sole.Goals as goal

pub push_ends-requires : goal.push_ends-requires
push_ends-requires g c = record { each = λ k h. (and_parts (has c.seen_where-owned.result k) _ (sym (has-minus c.seen_where-owned.result c.args.sole k) ∙ ap (λ (v : ℕ). has v k) (sym c.minus.ensures) ∙ h)).0 }

pub returns : goal.returns
returns g c = λ all ws cut b.
    let old : List (List ℕ) = map (having c.args.column) (parts c.args.own.now c.args.runs.now) in
    let new : List ℕ = lacking c.args.column c.args.pending.now in
    let s = c.with.result in
    let seen = c.seen_where-owned.ensures in
    let first : OwnedSoFar old c.args.free c.owned_columns_with-owned.result
    = record { low = c.owned_columns_with-owned.ensures.low; owned = c.owned_columns_with-owned.ensures.owned; unowned = c.owned_columns_with-owned.ensures.unowned } in
    let whole : OwnedSoFar (old ++ new ∷ []) c.args.free c.seen_where-owned.result
    = owned_also old c.args.free c.owned_columns_with-owned.result new c.seen_where-owned.result seen.low seen.seen seen.unseen first in
    branched_as ws (with c.args.chosen c.args.column) s c.args.free c.args.free c.args.found.now.items c.push_ends.new.found.items c.push_ends.new.found.items c.with.ensures refl refl
    (branch_sole ws s c.args.free c.seen_where-owned.result c.in_ok-_left._left c.minus.result c.args.sole (old ++ new ∷ []) c.args.found.now.items c.push_ends.new.found.items whole.low whole.owned whole.unowned c.minus.ensures
    c.in_ok-_left.ensures.low c.in_ok-_left.ensures.gone c.in_ok-_left.ensures.ended (subst (λ (v : ℕ). IsCut v (old ++ new ∷ [])) (sym c.with.ensures) cut)
    (branch_as ws (with c.args.chosen c.args.column) s c.args.free c.args.free (c.args.sole ∷ []) (c.args.sole ∷ []) (join (old ++ new ∷ [])) (join (old ++ new ∷ [])) c.with.ensures refl refl refl b))
