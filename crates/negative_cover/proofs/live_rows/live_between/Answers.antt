use Rattle.std.proofs.Common.{◌<◌, ◌∙◌, sym, ap, arith}
use Rattle.rel_base.specs.CodeTable.{live_at}
use Rattle.negative_cover.proofs.LiveRows.{live_more, live_same}
use Rattle.negative_cover.proofs.live_rows.live_between.Goals as goal
use Rattle.negative_cover.proofs.live_rows.live_between.Goals.{then-is_live+in_ok-push, else-is_live}

pub loop-number-preserved : goal.loop-number-preserved
loop-number-preserved c =
    let positive : 0 < c.loop-number.number = (let p = c.number-number.ensures.positive in let n = c.loop-number.auto.number in omega arith) in
    let less : c.loop-number.number < c.args.snapshot.now.to = (let t = c.loop-number-test.true in let v = c.number-number-end.ensures.value in let r = c.requires in omega arith) in
    elim c.if-is_live.branch [
      | then-is_live+in_ok-push w ↦
          let e = ap (λ v. v.items) w.rows-is ∙ w.in_ok-push.ensures.items in
          live_more c.args.snapshot.now c.args.from c.loop-number.number c.loop-number.rows.items c.if-is_live.rows.items c.of-row.result e c.of-row.ensures positive less (sym c.is_live.ensures ∙ w.if-is_live.true) c.loop-number.invariant
      | else-is_live w ↦
          let e = ap (λ v. v.items) w.rows-is in
          live_same c.args.snapshot.now c.args.from c.loop-number.number c.loop-number.rows.items c.if-is_live.rows.items e (ap (live_at c.args.snapshot.now) (sym c.of-row.ensures) ∙ sym c.is_live.ensures ∙ w.if-is_live.false) c.loop-number.invariant
    ]
