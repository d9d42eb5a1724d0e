use Rattle.std.proofs.Common.{◌≡◌, ◌∙◌, ◌++◌, [], ℕ, List, length, get_or, ap, arith, Vec}
use Rattle.std.specs.declared.alloc.Global.{Global}
use Rattle.std.proofs.lemmas.List.{length-map}
use Rattle.least_sets.specs.Drafts.{lists_behind}
use Rattle.least_sets.proofs.Filed.{behind_at}
use Rattle.least_sets.proofs.Firsts.{made_none, made_more, made_all}
use Rattle.least_sets.proofs.order.in_order.Goals as goal

pub loop-list-init : goal.loop-list-init
loop-list-init c = made_none c.args.sets.items c.in_ok-made.made.items c.in_ok-made.ensures.items

pub loop-list-preserved : goal.loop-list-preserved
loop-list-preserved c =
    let lists = c.in_ok-lists.lists.items in
    let all = c.as_slice-list-items.ensures.value in
    let many = length-map lists (λ v. v.items) in
    let same : length c.as_slice-list-items.result.now ≡ length lists = ap length all in
    let below = c.loop-list-test.true in
    let list : c.as_slice.result.now ≡ get_or (lists_behind lists) c.loop-list.list-index []
    = c.as_slice.ensures.value
    ∙ behind_at lists c.loop-list.list-index c.list-item.result (omega (arith, many, same, below)) (c.list-item.is ∙ ap (λ (vs : List (Vec ℕ Global)). get_or vs c.loop-list.list-index c.list-item.result) all) in
    made_more c.args.sets.items (lists_behind lists) c.loop-list.list-index c.as_slice.result.now c.in_ok-ranked.ranked.items c.loop-list.made.items c.extend_from_slice.new.self.items c.in_ok-lists.ensures list c.in_ok-ranked.ensures.order c.in_ok-ranked.ensures.members
    (c.in_ok-extend_from_slice.ensures.items ∙ ap (λ (xs : List ℕ). c.loop-list.made.items ++ xs) c.as_slice-in-loop-list.ensures.value) c.loop-list.invariant

pub returns-clause-order : goal.returns-clause-order
returns-clause-order c = c.loop-list.invariant.order

pub returns-clause-members : goal.returns-clause-members
returns-clause-members c =
    let lists = c.in_ok-lists.lists.items in
    let many = length-map lists (λ v. v.items) in
    let same : length c.as_slice-list-items.result.now ≡ length lists = ap length c.as_slice-list-items.ensures.value in
    let done = c.loop-list-test.false in
    made_all c.args.sets.items (lists_behind lists) c.loop-list.list-index c.loop-list.made.items c.in_ok-lists.ensures (omega (arith, many, same, done)) c.loop-list.invariant
