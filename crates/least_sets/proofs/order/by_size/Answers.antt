use Rattle.std.proofs.Common.{◌≡◌, ◌∙◌, ◌++◌, ◌∷◌, ◌≤◌, [], ℕ, List, get_or, set, refl, ap, subst, arith}
use Rattle.std.proofs.lemmas.List.{length-map, take_all}
use Rattle.least_sets.specs.BySize.{AreBySize}
use Rattle.least_sets.specs.Drafts.{lists_behind}
use Rattle.least_sets.proofs.Filed.{behind_set}
use Rattle.least_sets.proofs.Firsts.{by_size_none, by_size_more}
use Rattle.least_sets.proofs.order.by_size.Goals as goal

pub loop-x-init : goal.loop-x-init
loop-x-init c = by_size_none [] (lists_behind c.in_ok-lists.lists.items) refl c.in_ok-lists.ensures

pub loop-x-preserved : goal.loop-x-preserved
loop-x-preserved c =
    let lists = c.loop-x.lists.items in
    let many = length-map lists (λ v. v.items) in
    let count = c.loop-x.invariant.count in
    let few = c.len.ensures.bound in
    let new : lists_behind (set lists c.len.result c.push.new.self) ≡ set (lists_behind lists) c.len.result (get_or (lists_behind lists) c.len.result [] ++ c.x-item.result ∷ [])
    = behind_set lists c.len.result c.x-item.result c.index_mut.result.now c.push.new.self (omega (arith, many, count, few)) (c.in_ok-push.ensures.items ∙ ap (λ v. v.items ++ c.x-item.result ∷ []) c.index_mut.ensures.value) in
    by_size_more c.as_slice-x-items.result.now (lists_behind lists) (lists_behind (set lists c.len.result c.push.new.self)) c.loop-x.x-index c.x-item.result c.loop-x-test.true c.x-item.is
    (subst (λ (n : ℕ). n ≤ 128) c.len.ensures.value few) c.loop-x.invariant
    (new ∙ ap (λ (n : ℕ). set (lists_behind lists) n (get_or (lists_behind lists) n [] ++ c.x-item.result ∷ [])) c.len.ensures.value)

pub returns : goal.returns
returns c = subst (λ (xs : List ℕ). AreBySize xs (lists_behind c.loop-x.lists.items)) (take_all c.loop-x.x-index c.as_slice-x-items.result.now c.loop-x-test.false ∙ c.as_slice-x-items.ensures.value) c.loop-x.invariant
