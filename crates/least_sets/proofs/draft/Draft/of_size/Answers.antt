use Rattle.std.proofs.Common.{◌≡◌, ◌∙◌, ℕ, List, [], false, eqb, sym, ap, subst}
use Rattle.std.specs.List.{All, filter}
use Rattle.col_set.specs.ColSet.{IsSubset, size}
use Rattle.col_set.specs.Evidence.{IsLeast, refuted}
use Rattle.least_sets.specs.Branches.{HasBranched}
use Rattle.least_sets.specs.Growth.{choices}
use Rattle.least_sets.specs.Drafts.{Drafted}
use Rattle.least_sets.proofs.Branches.{branched_each}
use Rattle.least_sets.proofs.Sized.{sized_least, sized_sized}
use Rattle.least_sets.proofs.draft.Draft.of_size.Goals as goal

pub returns-clause-least : goal.returns-clause-least
returns-clause-least c =
    let n = c.args.self.now.width in
    let ws = c.args.self.now.agree_sets in
    let t = c.args.target in
    let found = c.in_ok-found.found.items in
    let filed : c.self.inside.filing.agree_sets ≡ ws = ap (λ (d : Drafted). d.agree_sets) c.self.view_is in
    let wide : c.columns.result ≡ n = c.columns.ensures.width ∙ c.self.invariant.2 ∙ ap (λ (d : Drafted). d.width) c.self.view_is in
    let chosen : c.choices-choices.result ≡ choices n t = c.choices-choices.ensures ∙ ap (λ (m : ℕ). choices m t) wide in
    subst (All (IsLeast n ws t)) (sym (c.in_ok-sets.ensures ∙ ap (filter (λ x. eqb (size x) c.args.size)) c.as_slice.ensures.value))
    (sized_least n ws t c.args.size found (branched_each (choices n t) ws t c.in_ok-kept.kept.items found
    (λ x i. c.in_ok-kept.ensures x (subst (IsSubset x) (sym chosen) i) ∙ c.outer.ensures x ∙ ap (λ (vs : List ℕ). refuted vs t x) filed)
    (subst (λ (u : ℕ). HasBranched false c.in_ok-kept.kept.items 0 u [] found) chosen c.in_ok-found.ensures)))

pub returns-clause-below : goal.returns-clause-below
returns-clause-below c =
    let n = c.args.self.now.width in
    let ws = c.args.self.now.agree_sets in
    let t = c.args.target in
    let found = c.in_ok-found.found.items in
    let filed : c.self.inside.filing.agree_sets ≡ ws = ap (λ (d : Drafted). d.agree_sets) c.self.view_is in
    let wide : c.columns.result ≡ n = c.columns.ensures.width ∙ c.self.invariant.2 ∙ ap (λ (d : Drafted). d.width) c.self.view_is in
    let chosen : c.choices-choices.result ≡ choices n t = c.choices-choices.ensures ∙ ap (λ (m : ℕ). choices m t) wide in
    let told : All (IsLeast n ws t) c.in_ok-sets.sets.items
    = subst (All (IsLeast n ws t)) (sym (c.in_ok-sets.ensures ∙ ap (filter (λ x. eqb (size x) c.args.size)) c.as_slice.ensures.value))
    (sized_least n ws t c.args.size found (branched_each (choices n t) ws t c.in_ok-kept.kept.items found
    (λ x i. c.in_ok-kept.ensures x (subst (IsSubset x) (sym chosen) i) ∙ c.outer.ensures x ∙ ap (λ (vs : List ℕ). refuted vs t x) filed)
    (subst (λ (u : ℕ). HasBranched false c.in_ok-kept.kept.items 0 u [] found) chosen c.in_ok-found.ensures))) in
    λ k d l. (told k d l).below

pub returns-clause-sized : goal.returns-clause-sized
returns-clause-sized c =
    subst (All (λ (x : ℕ). size x ≡ c.args.size)) (sym (c.in_ok-sets.ensures ∙ ap (filter (λ x. eqb (size x) c.args.size)) c.as_slice.ensures.value)) (sized_sized c.args.size c.in_ok-found.found.items)
