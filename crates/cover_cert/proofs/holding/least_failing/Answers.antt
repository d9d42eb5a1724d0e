use Rattle.std.proofs.Common.{refl, arith}
use Rattle.cover_cert.proofs.Visits.{seen-all, seen-next}
use Rattle.cover_cert.proofs.holding.least_failing.Goals as goal

pub loop-visit-preserved : goal.loop-visit-preserved
loop-visit-preserved c = record {
  path = c.least_with.ensures.path;
  bound = (let a = c.in_ok-next.ensures.less in let b = c.loop-visit.invariant.bound in omega arith);
  fails = c.in_ok-next.ensures.fails c.loop-visit.invariant.fails;
  seen = seen-next c.args.snapshot.now c.args.claims.now c.args.visits.now c.loop-visit.visit-index c.loop-visit.least c.in_ok-next.next _ _ c.loop-visit-test.true c.loop-visit.invariant.seen c.in_ok-next.ensures.less refl c.in_ok-next.ensures.held;
}

pub returns : goal.returns
returns c = seen-all c.args.snapshot.now c.args.claims.now c.args.visits.now c.loop-visit.visit-index c.loop-visit.least c.loop-visit.invariant.seen c.loop-visit-test.false c.loop-visit.invariant.bound c.loop-visit.invariant.fails
