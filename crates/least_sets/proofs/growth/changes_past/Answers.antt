use Rattle.std.proofs.Common.{◌≡◌, ◌++◌, ◌∙◌, List, ℕ, ap, ap₂, subst}
use Rattle.least_sets.specs.Growth.{choices, inside, outside, near, grown}
use Rattle.least_sets.specs.Members.{HasMembers}
use Rattle.least_sets.proofs.growth.changes_past.Goals as goal

pub returns-clause-members : goal.returns-clause-members
returns-clause-members c =
    let n = c.args.columns in
    let z = c.args.z in
    let known = c.args.sets.now in
    let ins : c.in_ok-touched.touched.inside.items ≡ inside z known = c.in_ok-touched.ensures.inside in
    let nears : c.in_ok-touched.touched.near.items ≡ near z (outside z known) = c.in_ok-touched.ensures.near in
    let first : c.extend_from_slice.new.self.items ≡ inside z known = c.in_ok-extend_from_slice.ensures.items ∙ ap₂ (λ (xs ys : List ℕ). xs ++ ys) c.in_ok-changes.ensures.items (c.as_slice.ensures.value ∙ ins) in
    let more : grown n c.choices.result z c.as_slice-2.result.now c.as_slice-3.result.now ≡ grown n (choices n c.args.target) z (inside z known) (near z (outside z known))
    = ap (λ (u : ℕ). grown n u z c.as_slice-2.result.now c.as_slice-3.result.now) c.choices.ensures ∙ ap₂ (grown n (choices n c.args.target) z) (c.as_slice-2.ensures.value ∙ ins) (c.as_slice-3.ensures.value ∙ nears) in
    subst (λ (xs : List ℕ). HasMembers xs c.sorted.result.items) (c.in_ok-push_all_grown.ensures ∙ ap₂ (λ (xs ys : List ℕ). xs ++ ys) first more) c.sorted.ensures.members
