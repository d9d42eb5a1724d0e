use Rattle.std.proofs.Common.{◌≡◌, ◌++◌, ◌∷◌, [], ◌∙◌, List, ℕ, sym, ap, ap₂, subst}
use Rattle.std.proofs.lemmas.Bool.{eqb-true}
use Rattle.std.proofs.lemmas.List.{nil_from_length}
use Rattle.std.proofs.lemmas.Result.{on_ok_weaker}
use Rattle.col_set.specs.Subsets.{IsSubset-refl}
use Rattle.least_sets.specs.Growth.{choices, ListsLeast, grown}
use Rattle.least_sets.proofs.Evidence.{choice_parts}
use Rattle.least_sets.proofs.Growing.{lists_after_split, lists_untouched_split}
use Rattle.least_sets.proofs.draft.grow_past.Goals as goal

pub returns-then-is_empty : goal.returns-then-is_empty
returns-then-is_empty c =
    let s = c.in_ok-split_off.ensures in
    λ ws l. lists_untouched_split (choices c.args.columns c.args.target) ws c.args.target c.args.z c.requires.apart c.args.sets.now.items c.split_off.new.inner.items c.split_off.new.sets.items s.all s.rest l
    (nil_from_length c.split_off.new.inner.items (sym c.split_off.new.inner.ok.0 ∙ eqb-true _ 0 (sym c.if-is_empty.ensures)))

pub returns : goal.returns
returns c =
    let n = c.args.columns in
    let z = c.args.z in
    let u = choices n c.args.target in
    let s = c.in_ok-split_off.ensures in
    let rest = c.split_off.new.sets.items in
    let same : grown n c.choices-choices.result z c.as_slice.result.now c.as_slice-2.result.now ≡ grown n u z c.split_off.new.inner.items c.split_off.new.nearby.items
    = ap (λ (v : ℕ). grown n v z c.as_slice.result.now c.as_slice-2.result.now) c.choices-choices.ensures ∙ ap₂ (grown n u z) c.as_slice.ensures.value c.as_slice-2.ensures.value in
    on_ok_weaker c.push_all_grown.result
    (λ made ws l. subst (ListsLeast u (ws ++ z ∷ []) c.args.target) (sym (made ∙ ap (λ (xs : List ℕ). rest ++ xs) same))
    (lists_after_split u ws c.args.target z c.requires.apart c.args.sets.now.items c.split_off.new.inner.items rest s.all s.rest l n (choice_parts n c.args.target u (IsSubset-refl u)).0 c.split_off.new.nearby.items s.inner s.nearby))
    c.push_all_grown.ensures
