use Rattle.std.proofs.Common.{◌∙◌, sym, subst, ap, Some, ℕ, ◌<◌, ◌≤◌, true, false}
use Rattle.candidate_cover.specs.Marks.{cands}
use Rattle.candidate_cover.specs.Pairs.{pairs_of}
use Rattle.candidate_cover.proofs.Flat.{found_here, found_not_here, found_nowhere, length-flat_cands}
use Rattle.candidate_cover.proofs.cand_list.first_in.Goals as goal

pub loop-place-preserved : goal.loop-place-preserved
loop-place-preserved g c = λ p f.
    c.loop-place.invariant p f
    ∙ found_not_here p (cands (pairs_of c.args.sets.now c.args.uptos.now c.args.helds.now)) c.loop-place.place c.cand_at.result
    (subst (λ (n : ℕ). c.loop-place.place < n) (sym (length-flat_cands c.args.sets.now c.args.uptos.now c.args.helds.now c.requires.even)) c.loop-place-test.true)
    (c.cand_at.ensures c.cand_at.result) (sym (f c.cand_at.result false c.if-test.ensures))

pub returns-then-test : goal.returns-then-test
returns-then-test g c = λ p f. sym (
    c.loop-place.invariant p f
    ∙ found_here p (cands (pairs_of c.args.sets.now c.args.uptos.now c.args.helds.now)) c.loop-place.place c.cand_at.result
    (subst (λ (n : ℕ). c.loop-place.place < n) (sym (length-flat_cands c.args.sets.now c.args.uptos.now c.args.helds.now c.requires.even)) c.loop-place-test.true)
    (c.cand_at.ensures c.cand_at.result) (sym (f c.cand_at.result true c.if-test.ensures))
    ∙ ap Some (sym (c.cand_at.ensures c.cand_at.result) ∙ c.cand_at-then-test.ensures c.cand_at.result))

pub returns : goal.returns
returns g c = λ p f. sym (c.loop-place.invariant p f ∙ found_nowhere p (cands (pairs_of c.args.sets.now c.args.uptos.now c.args.helds.now)) c.loop-place.place
    (subst (λ (n : ℕ). n ≤ c.loop-place.place) (sym (length-flat_cands c.args.sets.now c.args.uptos.now c.args.helds.now c.requires.even)) c.loop-place-test.false))
