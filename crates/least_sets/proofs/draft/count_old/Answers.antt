use Rattle.std.proofs.Common.{◌≡◌, ◌∙◌, ℕ, sym, subst, get_or, arith}
use Rattle.std.proofs.lemmas.Bool.{not-false, eqb-true}
use Rattle.least_sets.proofs.Soles.{old_next}
use Rattle.least_sets.proofs.draft.count_old.Goals as goal
use Rattle.least_sets.proofs.draft.count_old.Goals.{then-not-has_target+else-count-agree_sets+else-ne, else-not-has_target}

pub loop-w-preserved : goal.loop-w-preserved
loop-w-preserved c = elim c.if-not-has_target.branch [
  | then-not-has_target+else-count-agree_sets+else-ne w ↦
      rw w.count-is (record {
        bound = omega arith;
        old = old_next c.args.target c.args.old.now c.args.agree_sets.now c.loop-w.count c.loop-w.w-index c.w-item.result c.loop-w-test.true c.w-item.is (sym c.has_target.ensures ∙ w.if-not-has_target.true) (omega arith)
            (subst (λ (u : ℕ). get_or c.args.agree_sets.now c.loop-w.count u ≡ u) (eqb-true _ _ (not-false _ (sym w.ne.ensures ∙ w.if-ne.false))) (sym w.index-agree_sets-count.is)) c.loop-w.invariant.old;
      })
  | else-not-has_target w ↦ rw w.count-is c.loop-w.invariant
]
