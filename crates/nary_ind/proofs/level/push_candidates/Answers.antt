use Rattle.std.proofs.Common.{◌∙◌, ◌<◌, ℕ, ap, arith, length, subst, sym}
use Rattle.nary_ind.specs.declared.found.Side.{Side}
use Rattle.nary_ind.specs.ListInclusions.{width_at}
use Rattle.nary_ind.specs.Levels.{IsSide, extend, is_candidate}
use Rattle.nary_ind.proofs.Widening.{kept-more, left-more, side-with}
use Rattle.nary_ind.proofs.level.push_candidates.Goals as goal
use Rattle.nary_ind.proofs.level.push_candidates.Goals.{then-is_candidate+in_ok-push, else-is_candidate}

pub is_candidate-requires-clause-dependent : goal.is_candidate-requires-clause-dependent
is_candidate-requires-clause-dependent c = subst (λ (n : ℕ). IsSide c.args.known.now n c.args.side.now) (sym c.requires.side.long) c.requires.side

pub is_candidate-requires-clause-referenced : goal.is_candidate-requires-clause-referenced
is_candidate-requires-clause-referenced c =
    let l : c.loop-column.column < width_at c.args.known.now c.args.list.now.rel = let t = c.loop-column-test.true in let e = c.width-column-end.ensures in omega arith in
    subst (λ (x : Side). IsSide c.args.known.now (length c.args.side.now.columns) x) (sym c.with-more.ensures)
    (subst (λ (n : ℕ). IsSide c.args.known.now n (extend c.args.list.now c.loop-column.column)) (sym c.requires.side.long) (side-with c.args.known.now c.args.width c.args.list.now c.loop-column.column c.requires.list l))

pub loop-column-preserved : goal.loop-column-preserved
loop-column-preserved c =
    let p = is_candidate c.args.known.now c.args.side.now in
    let more = sym (ap (is_candidate c.args.known.now c.args.side.now) c.with-more.ensures) ∙ sym c.is_candidate.ensures in
    elim c.if-is_candidate.branch [
      | then-is_candidate+in_ok-push w ↦
          kept-more p (extend c.args.list.now) c.loop-column.column c.args.found.now.items c.loop-column.found.items c.if-is_candidate.found.items c.loop-column.invariant (more ∙ w.if-is_candidate.true)
          (let r = w.found-is in let i = w.in_ok-push.ensures.items in let e = c.with-more.ensures in cc)
      | else-is_candidate w ↦
          left-more p (extend c.args.list.now) c.loop-column.column c.args.found.now.items c.loop-column.found.items c.if-is_candidate.found.items c.loop-column.invariant (more ∙ w.if-is_candidate.false)
          (let r = w.found-is in cc)
    ]
