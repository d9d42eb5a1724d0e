use Rattle.std.proofs.Common.{◌≡◌, ℕ, ◌++◌, ◌∷◌, List, [], map, take, sym, ap, ◌∙◌, subst, arith, refl, inl}
use Rattle.std.proofs.lemmas.Iterator.Adapters.{YieldsList-from_vec}
use Rattle.std.proofs.lemmas.Iterator.Consumers.{YieldsList-so_far}
use Rattle.std.proofs.lemmas.List.{length-append}
use Rattle.rel_base.specs.declared.batch.Op.{Op}
use Rattle.row_log.specs.declared.applying.Applying.{Applying}
use Rattle.desk_lock.specs.Views.{InHome}
use Rattle.desk_lock.specs.Passes.{view}
use Rattle.refine_pool.specs.Crews.{IsFed}
use Rattle.refine_pool.proofs.Passing.{one_more}
use Rattle.refine_pool.proofs.Feeding.{fed_more, fed_same}
use Rattle.refine_pool.proofs.feeder.feed.Goals as goal

map-itself : {A : Type 0} → (xs : List A) → map (λ x. x) xs ≡ xs
map-itself [] = refl
map-itself (x ∷ xs) = ap (λ l. x ∷ l) (map-itself xs)

pub returns-in_default-clause-fed : goal.returns-in_default-clause-fed
returns-in_default-clause-fed g c =
    let p = c.loop-batch.pass.pass in
    let q = c.apply.new.pass.pass in
    let yielded : List (List Op) = c.loop-batch.yielded in
    let from = c.into_iter-batch-iterator.ensures.into_iter_gives in
    let so_far = YieldsList-so_far (YieldsList-from_vec c.args.batches.items from.0 (from.1 ∙ c.args.batches.ok.0)) yielded c.loop-batch.batch-iterator c.loop-batch.yielded_by in
    let low = c.loop-batch.pass.first in
    let bears = c.loop-batch.invariant.own.own.bears in
    let home : InHome (view p) 0 = inl (omega (arith, low), omega (arith, low, bears)) in
    subst (λ (bs : List (List Op)). IsFed c.args.desk.now q bs c.loop-batch.replies.items)
    (sym (map-itself yielded) ∙ so_far ∙ ap (λ (n : ℕ). take n c.args.batches.items) (sym c.loop-batch.invariant.count))
    (fed_same c.args.desk.now p q yielded c.loop-batch.replies.items c.in-Some.batch c.requires.own.sound home c.loop-batch.invariant.fed c.in_default.ensures.turned)

pub loop-batch-preserved : goal.loop-batch-preserved
loop-batch-preserved g c =
    let p = c.loop-batch.pass.pass in
    let q = c.apply.new.pass.pass in
    let yielded : List (List Op) = c.loop-batch.yielded in
    let low = c.loop-batch.pass.first in
    let bears = c.loop-batch.invariant.own.own.bears in
    let home : InHome (view p) 0 = inl (omega (arith, low), omega (arith, low, bears)) in
    let longer = length-append yielded (c.in-Some.batch ∷ []) in
    let count = c.loop-batch.invariant.count in
    let more = c.push_reserved.ensures.len in
    record {
      own = c.in-Ok.ensures.own;
      on = one_more c.args.desk.now c.args.pass.pass p q _ _ c.loop-batch.invariant.on c.in-Ok.ensures.turned;
      fed = subst (λ (rs : List Applying). IsFed c.args.desk.now q (yielded ++ c.in-Some.batch ∷ []) rs) (sym c.push_reserved.ensures.items)
          (fed_more c.args.desk.now p q yielded c.loop-batch.replies.items c.in-Some.batch c.in-Ok.reply c.requires.own.sound home c.loop-batch.invariant.fed c.in-Ok.ensures.turned c.in-Ok.ensures.answered);
      count = omega (arith, longer, count, more);
      room = c.push_reserved.ensures.capacity ∙ c.loop-batch.invariant.room;
    }
