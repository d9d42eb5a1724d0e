use Rattle.std.proofs.Common.{◌≡◌, ◌+◌, ◌∷◌, [], ℕ, subst, arith, length, refl}
use Rattle.negative_cover.specs.FoundPairs.{HasCompared}
use Rattle.negative_cover.proofs.AllPairs.{compared_next}
use Rattle.negative_cover.proofs.pairing.add_pairs.Goals as goal

pub loop-k-preserved : goal.loop-k-preserved
loop-k-preserved c =
    let o = c.of.ensures in
    let n = c.number.ensures.value in
    record {
      seen = c.in_ok-add_pair.ensures.seen;
      compared = compared_next c.args.snapshot.now c.args.first c.loop-k.k c.of.result (c.args.first + (c.loop-k.k + 1)) c.args.other c.args.found.now.pairs.items c.loop-k.found.pairs.items c.add_pair.new.found.pairs.items
          (omega arith) refl c.loop-k.invariant.compared c.in_ok-add_pair.ensures.compared;
    }

pub returns-clause-compared : goal.returns-clause-compared
returns-clause-compared c =
    let whole : c.loop-k.k ≡ length c.args.sets.now = (let t = c.loop-k-test.false in let e = c.loop-k.auto.k-end in omega arith) in
    subst (λ (n : ℕ). HasCompared c.args.snapshot.now c.args.first (c.args.first + n) (c.args.other ∷ []) c.args.found.now.pairs.items c.loop-k.found.pairs.items) whole c.loop-k.invariant.compared
