use Rattle.std.proofs.Common.{◌≡◌, ◌∙◌, ℕ, eqb, sym, ap, subst}
use Rattle.std.specs.List.{All, filter}
use Rattle.col_set.specs.ColSet.{size}
use Rattle.col_set.specs.Evidence.{IsLeast}
use Rattle.col_set.specs.Lists.{Listed}
use Rattle.least_sets.specs.Growth.{IsLeastAmong}
use Rattle.least_sets.proofs.Sized.{sized_least, sized_sized}
use Rattle.least_sets.proofs.least.least_sets_of_size.Goals as goal

pub returns-clause-least : goal.returns-clause-least
returns-clause-least c =
    let n = c.args.columns in
    let ws = c.args.agree_sets.now in
    let t = c.args.target in
    let found = c.in_ok-found.found.items in
    subst (All (IsLeast n ws t)) (sym (c.in_ok-sets.ensures ∙ ap (filter (λ x. eqb (size x) c.args.size)) c.as_slice.ensures.value))
    (sized_least n ws t c.args.size found (subst (λ (u : ℕ). (x : ℕ) → Listed x found → IsLeastAmong u ws t x) c.choices-choices.ensures c.in_ok-found.ensures.each))

pub returns-clause-sized : goal.returns-clause-sized
returns-clause-sized c =
    subst (All (λ (x : ℕ). size x ≡ c.args.size)) (sym (c.in_ok-sets.ensures ∙ ap (filter (λ x. eqb (size x) c.args.size)) c.as_slice.ensures.value)) (sized_sized c.args.size c.in_ok-found.found.items)
