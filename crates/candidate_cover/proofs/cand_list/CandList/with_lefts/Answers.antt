use Rattle.std.proofs.Common.{◌∙◌, ap}
use Rattle.candidate_cover.specs.Marks.{cands}
use Rattle.candidate_cover.proofs.Flat.{marked_none, marked_more, marked_all, flat_order}
use Rattle.candidate_cover.proofs.cand_list.CandList.with_lefts.Goals as goal

pub loop-x-init : goal.loop-x-init
loop-x-init c = marked_none (cands c.args.self.now) c.as_slice-x-items.result.now c.in_ok-uptos.uptos.items c.in_ok-helds.helds.items c.in_ok-uptos.ensures.items c.in_ok-helds.ensures.items

pub loop-x-preserved : goal.loop-x-preserved
loop-x-preserved c = marked_more (cands c.args.self.now) c.as_slice-x-items.result.now c.loop-x.x-index c.loop-x.uptos.items c.push.new.self.items c.loop-x.helds.items c.push-in-loop-x.new.self.items c.x-item.result c.mark_near-mark.result.0
    c.loop-x-test.true c.x-item.is c.mark_near-mark.ensures c.in_ok-push.ensures.items c.in_ok-push-2.ensures.items c.loop-x.invariant

pub of-requires-clause-even : goal.of-requires-clause-even
of-requires-clause-even c = (marked_all (cands c.args.self.now) c.as_slice-x-items.result.now c.loop-x.x-index c.loop-x.uptos.items c.loop-x.helds.items c.args.sets.items c.loop-x-test.false c.as_slice-x-items.ensures.value c.loop-x.invariant).0

pub of-requires-clause-order : goal.of-requires-clause-order
of-requires-clause-order c = flat_order c.args.sets.items c.loop-x.uptos.items c.loop-x.helds.items
    (marked_all (cands c.args.self.now) c.as_slice-x-items.result.now c.loop-x.x-index c.loop-x.uptos.items c.loop-x.helds.items c.args.sets.items c.loop-x-test.false c.as_slice-x-items.ensures.value c.loop-x.invariant).0 c.requires

pub returns : goal.returns
returns c = ap cands c.of.ensures ∙ (marked_all (cands c.args.self.now) c.as_slice-x-items.result.now c.loop-x.x-index c.loop-x.uptos.items c.loop-x.helds.items c.args.sets.items c.loop-x-test.false c.as_slice-x-items.ensures.value c.loop-x.invariant).1
