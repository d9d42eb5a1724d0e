use Rattle.std.proofs.Common.{◌<◌, ◌∙◌, ℕ, List, Option, length, get_or, sym, ap, subst, arith}
use Rattle.std.proofs.lemmas.List.{get_or_default}
use Rattle.candidate_cover.specs.declared.cand.Cand.{Cand}
use Rattle.cover_steps.specs.NewLists.{IsPlaced}
use Rattle.cover_steps.proofs.new_lists.taken_out.Goals as goal

pub returns-then-index-place-clause-found : goal.returns-then-index-place-clause-found
returns-then-index-place-clause-found c = λ n ws candidates ts all.
    let P = IsPlaced n ws candidates ts in
    let same = c.loop-k.invariant in
    let within : c.loop-k.k < length c.loop-k.made.items = (let t = c.loop-k-test.true in let l = c.len-k-end.ensures in let e = ap (λ (ps : List (ℕ × Option (List Cand))). length ps) same in omega (arith, c.loop-k.made.ok.0, c.args.made.now.ok.0)) in
    let taken : P c.remove.result = subst P (sym c.remove.ensures.value) (subst (λ (ps : List (ℕ × Option (List Cand))). P (get_or ps c.loop-k.k c.remove.result)) (sym same)
    (all c.loop-k.k c.remove.result (subst (λ (ps : List (ℕ × Option (List Cand))). c.loop-k.k < length ps) same within))) in
    let seen = c.index.ensures ∙ get_or_default c.loop-k.made.items c.loop-k.k c.index.result.now c.remove.result within ∙ sym c.remove.ensures.value in
    subst (λ (place : ℕ). P (place, c.remove.result.1)) (sym (ap (λ (p : ℕ × Option (List Cand)). p.0) seen) ∙ c.if-index-place.true) taken
