use Rattle.std.proofs.Common.{◌*◌, sym, subst, arith, length, ap}
use Rattle.std.proofs.lemmas.List.{length_push}
use Rattle.sampler.specs.Spread.{AreAmong}
use Rattle.sampler.proofs.Among.{among_at}
use Rattle.sampler.proofs.spread.each_second.Goals as goal

pub loop-k-preserved : goal.loop-k-preserved
loop-k-preserved c =
    let pairs = c.args.pairs.now in let halved = c.loop-k.halved.items in let p = c.index-pairs-k.result in
    let k = c.loop-k-test.true in
    let long = c.loop-k.invariant.long in
    let pushed = ap length c.in_ok-push.ensures.items in
    let more = length_push halved p in
    record {
      among = subst (AreAmong pairs) (sym c.in_ok-push.ensures.items) (among_at pairs halved (2 * c.loop-k.k) p c.loop-k.invariant.among (omega arith) (sym c.index-pairs-k.is));
      long = omega arith;
    }
