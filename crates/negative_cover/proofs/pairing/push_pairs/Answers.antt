use Rattle.std.proofs.Common.{◌≡◌, ◌+◌, ◌++◌, ◌∷◌, ◌∙◌, [], ℕ, List, sym, ap, subst, arith, rules, length, take}
use Rattle.std.proofs.lemmas.List.{take_all, take_more}
use Rattle.std.proofs.lemmas.Grind.{get_or_default_zero}
use Rattle.negative_cover.specs.FoundPairs.{HasCompared}
use Rattle.negative_cover.proofs.AllPairs.{compared_later}
use Rattle.negative_cover.proofs.pairing.push_pairs.Goals as goal

pub loop-place-preserved : goal.loop-place-preserved
loop-place-preserved c =
    let late = c.args.late.now in
    let place = c.loop-place.place in
    let j = c.index-late-place.result in
    let is = c.index-late-place.is ∙ get_or_default_zero late place j c.loop-place-test.true in
    let more = take_more late place 0 c.loop-place-test.true ∙ ap (λ (i : ℕ). take place late ++ i ∷ []) (sym is) in
    let whole : c.args.first + length c.deref_mut.result.now ≡ c.args.end = search rules in
    record {
      seen = c.in_ok-push_pairs_with.ensures.seen;
      compared = subst (λ (rows : List ℕ). HasCompared c.args.snapshot.now c.args.first c.args.end rows c.args.found.now.pairs.items c.push_pairs_with.new.found.pairs.items) (sym more)
          (compared_later c.args.snapshot.now c.args.first c.args.end j (take place late) c.args.found.now.pairs.items c.loop-place.found.pairs.items c.push_pairs_with.new.found.pairs.items c.loop-place.invariant.compared
          (subst (λ (n : ℕ). HasCompared c.args.snapshot.now c.args.first n (j ∷ []) c.loop-place.found.pairs.items c.push_pairs_with.new.found.pairs.items) whole c.in_ok-push_pairs_with.ensures.compared));
    }

pub returns-clause-compared : goal.returns-clause-compared
returns-clause-compared c =
    let whole = take_all c.loop-place.place c.args.late.now (let t = c.loop-place-test.false in omega arith) in
    subst (λ (rows : List ℕ). HasCompared c.args.snapshot.now c.args.first c.args.end rows c.args.found.now.pairs.items c.loop-place.found.pairs.items) whole c.loop-place.invariant.compared
