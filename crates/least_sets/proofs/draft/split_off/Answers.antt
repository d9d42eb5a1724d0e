use Rattle.std.proofs.Common.{◌≡◌, ◌<◌, ◌∙◌, ◌++◌, ◌∷◌, [], ℕ, List, ap, sym, subst, cond, eqb, length, true, false, arith, rules}
use Rattle.std.specs.List.{swap_remove}
use Rattle.std.proofs.lemmas.List.{get_or_default}
use Rattle.col_set.specs.ColSet.{size}
use Rattle.least_sets.proofs.Splitting.{SplitSoFar, split_inside, split_here, copy_one, copy_none}
use Rattle.least_sets.proofs.draft.split_off.Goals as goal
use Rattle.least_sets.proofs.draft.split_off.Goals.{then-len-eq1+in_ok-push-2, else-len-eq1}

pub loop-place-preserved-in-Continue-1 : goal.loop-place-preserved-in-Continue-1
loop-place-preserved-in-Continue-1 c =
    let now = c.loop-place.sets.items in
    let inner = c.loop-place.inner.items in
    let nearby = c.loop-place.nearby.items in
    let x = c.index-x.result.now in
    let r = c.minus-out.result in
    let e : eqb r 0 ≡ true = search rules in
    let l : c.loop-place.place < length now = omega arith in
    let same : c.swap_remove.result ≡ x = c.swap_remove.ensures.value ∙ get_or_default now c.loop-place.place c.swap_remove.result x l ∙ sym c.index-x.ensures in
    subst (λ (xs : List ℕ). SplitSoFar c.args.z c.args.sets.now.items c.swap_remove.new.self.items xs nearby c.loop-place.place)
    (sym (c.in_ok-push.ensures.items ∙ ap (λ (y : ℕ). inner ++ y ∷ []) same))
    (split_inside c.args.z c.args.sets.now.items now inner nearby c.loop-place.place x r c.loop-place.invariant l c.index-x.ensures c.minus-out.ensures e c.swap_remove.new.self.items
    (c.swap_remove.ensures.items ∙ ap (swap_remove now c.loop-place.place) same))

pub loop-place-preserved : goal.loop-place-preserved
loop-place-preserved c =
    let now = c.loop-place.sets.items in
    let nearby = c.loop-place.nearby.items in
    let x = c.index-x.result.now in
    let r = c.minus-out.result in
    let e : eqb r 0 ≡ false = search rules in
    let copy : c.if-len-eq1.nearby.items ≡ nearby ++ cond (eqb (size r) 1) (x ∷ []) [] = elim c.if-len-eq1.branch [
      | then-len-eq1+in_ok-push-2 u ↦ copy_one nearby _ x r c.len-else-eq.result c.len-else-eq.ensures.value u.if-len-eq1.true (ap (λ v. v.items) u.nearby-is ∙ u.in_ok-push-2.ensures.items)
      | else-len-eq1 u ↦ copy_none nearby _ x r c.len-else-eq.result c.len-else-eq.ensures.value u.if-len-eq1.false (ap (λ v. v.items) u.nearby-is)
    ] in
    split_here c.args.z c.args.sets.now.items now c.loop-place.inner.items nearby c.loop-place.place x r c.loop-place.invariant (omega arith) c.index-x.ensures c.minus-out.ensures e _ copy
