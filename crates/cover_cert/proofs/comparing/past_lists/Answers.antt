use Rattle.std.proofs.Common.{◌≡◌, ◌∙◌, ◌+◌, ◌++◌, ℕ, List, Vec, Global, refl, ap, arith, length, map, drop, get_or}
use Rattle.cover_cert.specs.declared.line.Claim.{Claim}
use Rattle.cover_cert.specs.Comparing.{claims_beside, departs_then}
use Rattle.cover_cert.proofs.Lists.{any-default, beside-first, beside-none, length-items, items-at}
use Rattle.cover_cert.proofs.comparing.past_lists.Goals as goal

pub bounds-some-place : goal.bounds-some-place
bounds-some-place c = let same = c.requires.lists in let l = c.loop-place-test.true in omega arith

pub past-next-requires : goal.past-next-requires
past-next-requires c = c.loop-place.invariant.place

pub loop-place-init : goal.loop-place-init
loop-place-init c = record { place = c.requires.place; told = λ number more. refl }

pub loop-place-preserved : goal.loop-place-preserved
loop-place-preserved c = record {
  place = c.past-next.ensures.place;
  told = λ number more.
      let some = c.args.some.now in let lists = c.args.lists.now in let k = c.loop-place.place in
      let items = map (λ (list : Vec ℕ Global). list.items) lists in
      let same = c.requires.lists in
      let count : length items ≡ length lists = length-items lists in
      let l = c.loop-place-test.true in
      c.loop-place.invariant.told number more
      ∙ ap (departs_then number c.args.claims.now c.loop-place.next)
      (beside-first some items k (get_or some k 0) c.as_slice.result.now more (omega arith) (omega arith) (any-default some k 0 (get_or some k 0) (omega arith)) (c.as_slice.ensures.value ∙ items-at lists k c.index-lists-place.result c.as_slice.result.now l c.index-lists-place.is))
      ∙ c.past-next.ensures.told number (claims_beside (drop (k + 1) some) (drop (k + 1) items) ++ more);
}

pub returns-clause-place : goal.returns-clause-place
returns-clause-place c = c.loop-place.invariant.place

pub returns-clause-told : goal.returns-clause-told
returns-clause-told c number more =
    let some = c.args.some.now in let lists = c.args.lists.now in let k = c.loop-place.place in
    let items = map (λ (list : Vec ℕ Global). list.items) lists in
    let same = c.requires.lists in
    let l = c.loop-place-test.false in
    c.loop-place.invariant.told number more
    ∙ ap (λ (cs : List Claim). departs_then number c.args.claims.now c.loop-place.next (cs ++ more)) (beside-none some items k (omega arith))
