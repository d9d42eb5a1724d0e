use Rattle.std.proofs.Common.{◌≡◌, ◌∙◌, drop, drop_of_length-le, sym, ap}
use Rattle.candidate_cover.specs.Lists.{CandLists}
use Rattle.candidate_cover.specs.Cands.{width, cands_of, marked}
use Rattle.candidate_cover.proofs.Targets.{width-with_list}
use Rattle.cover_core.proofs.Marked.{marked_one, marked-next, marked-end}
use Rattle.cover_core.proofs.waiting.mark_each.Goals as goal

pub loop-waiting-preserved : goal.loop-waiting-preserved
loop-waiting-preserved c =
    let old = c.loop-waiting.candidates in
    let w = c.waiting-item.result in
    let made : c.mark.new.self ≡ marked_one old w c.args.to = c.mark.ensures.list ∙ ap (λ (x : CandLists). marked_one x w c.args.to) c.look_near.ensures in (
      marked-next old c.mark.new.self c.args.list.now c.loop-waiting.waiting-index c.args.to w c.loop-waiting-test.true c.waiting-item.is made ∙ c.loop-waiting.invariant.0,
      ap width made ∙ width-with_list old w.target (marked (cands_of old w.target) w.cand.left c.args.to) ∙ c.loop-waiting.invariant.1,
    )

pub returns : goal.returns
returns c = sym (marked-end c.loop-waiting.candidates (drop c.loop-waiting.waiting-index c.args.list.now) c.args.to (drop_of_length-le c.args.list.now c.loop-waiting-test.false)) ∙ c.loop-waiting.invariant.0
