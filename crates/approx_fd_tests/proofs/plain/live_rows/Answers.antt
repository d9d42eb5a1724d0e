use Rattle.std.proofs.Common.{◌∙◌, ◌++◌, ◌∷◌, [], ℕ, List, ap, sym}
use Rattle.rel_base.specs.CodeTable.{live_at}
use Rattle.approx_fd_tests.proofs.PlainSteps.{live-more, live-not, live-end}
use Rattle.approx_fd_tests.proofs.plain.live_rows.Goals as goal
use Rattle.approx_fd_tests.proofs.plain.live_rows.Goals.{then-is_live+in_ok-push, else-is_live}

pub loop-place-preserved : goal.loop-place-preserved
loop-place-preserved c =
    let s = c.args.snapshot.now in
    elim c.if-is_live.branch [
      | then-is_live+in_ok-push w ↦
          live-more s c.loop-place.place c.loop-place.rows.items c.if-is_live.rows.items c.loop-place.invariant
          (ap (live_at s) (sym c.of-row.ensures) ∙ sym c.is_live.ensures ∙ w.if-is_live.true)
          (ap (λ m. m.items) w.rows-is ∙ w.in_ok-push.ensures.items ∙ ap (λ (i : ℕ). c.loop-place.rows.items ++ i ∷ []) c.of-row.ensures)
      | else-is_live w ↦
          ap (λ m. m.items) w.rows-is
          ∙ live-not s c.loop-place.place c.loop-place.rows.items c.loop-place.invariant (ap (live_at s) (sym c.of-row.ensures) ∙ sym c.is_live.ensures ∙ w.if-is_live.false)
    ]

pub returns : goal.returns
returns c = live-end c.args.snapshot.now c.loop-place.rows.items c.loop-place.place c.number-place-end.result c.loop-place.invariant c.loop-place.auto.place-end c.loop-place-test.false
    (c.number-place-end.ensures.value ∙ c.to.ensures.value)
