use Rattle.std.proofs.Common.{◌+◌, ◌∙◌, ◌++◌, ◌∷◌, [], ℕ, ap, sym, subst, arith}
use Rattle.std.proofs.lemmas.Bool.{true≢false}
use Rattle.rel_base.specs.CodeTable.{live_at}
use Rattle.validator.proofs.Chained.{flagged_live, live_flag}
use Rattle.validator.proofs.NewRows.{Gathering, gathering_live, gathering_dead, gathering_end}
use Rattle.validator.proofs.newer.rows_from.Goals as goal
use Rattle.validator.proofs.newer.rows_from.Goals.{then-is_live+in_ok-push, else-is_live}

pub loop-number-preserved : goal.loop-number-preserved
loop-number-preserved c =
    let first = c.number-number.ensures.value in
    let positive = c.number-number.ensures.positive in
    let above = c.loop-number.auto.number in
    let below = c.loop-number-test.true in
    let end = c.number-number-end.ensures.value in
    let to = c.to.ensures.value in
    let is = c.of-row.ensures in
    elim c.if-is_live.branch [
      | then-is_live+in_ok-push w ↦
          gathering_live c.args.snapshot.now c.args.from c.loop-number.number c.loop-number.rows.items c.loop-number.invariant c.if-is_live.rows.items (omega arith)
          (flagged_live c.args.snapshot.now c.loop-number.number (omega arith) (omega arith) (ap (live_at c.args.snapshot.now) (sym is) ∙ sym c.is_live.ensures ∙ w.if-is_live.true))
          (ap (λ v. v.items) w.rows-is ∙ w.in_ok-push.ensures.items ∙ ap (λ (n : ℕ). c.loop-number.rows.items ++ n ∷ []) is)
      | else-is_live w ↦
          subst (Gathering c.args.snapshot.now c.args.from (c.loop-number.number + 1)) (sym (ap (λ v. v.items) w.rows-is))
          (gathering_dead c.args.snapshot.now c.args.from c.loop-number.number c.loop-number.rows.items c.loop-number.invariant
          (λ h. true≢false (sym (live_flag c.args.snapshot.now c.loop-number.number h) ∙ ap (live_at c.args.snapshot.now) (sym is) ∙ sym c.is_live.ensures ∙ w.if-is_live.false)))
    ]

pub returns : goal.returns
returns c =
    let past = c.loop-number-test.false in
    let end = c.number-number-end.ensures.value in
    let to = c.to.ensures.value in
    gathering_end c.args.snapshot.now c.args.from c.loop-number.number c.loop-number.rows.items c.loop-number.invariant (omega arith)
