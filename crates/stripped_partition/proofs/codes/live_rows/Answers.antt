use Rattle.std.proofs.Common.{◌-◌, ℕ, length, sym, ap, ◌∙◌, arith}
use Rattle.std.specs.List.{filter, range_with_len}
use Rattle.rel_base.specs.CodeTable.{live_at}
use Rattle.rel_base.specs.Shows.{live_numbers}
use Rattle.stripped_partition.proofs.Coding.{live_yes, live_not}
use Rattle.stripped_partition.proofs.Live.{length-live}
use Rattle.stripped_partition.proofs.codes.live_rows.Goals as goal
use Rattle.stripped_partition.proofs.codes.live_rows.Goals.{then-is_live+in_ok-push, else-is_live}

pub loop-number-preserved : goal.loop-number-preserved
loop-number-preserved c =
    let live = sym (ap (live_at c.args.snapshot.now) c.of-row.ensures) in
    let row = c.of-row.ensures in
    elim c.if-is_live.branch [
      | then-is_live+in_ok-push w ↦
          let y = live_yes (live_at c.args.snapshot.now) c.loop-number.rows.items c.loop-number.number c.loop-number.auto.number c.loop-number.invariant (live ∙ sym c.is_live.ensures ∙ w.if-is_live.true) in
          let i = w.in_ok-push.ensures.items in
          let r = w.rows-is in cc
      | else-is_live w ↦
          let y = live_not (live_at c.args.snapshot.now) c.loop-number.rows.items c.loop-number.number c.loop-number.auto.number c.loop-number.invariant (live ∙ sym c.is_live.ensures ∙ w.if-is_live.false) in
          let r = w.rows-is in cc
    ]

pub returns-clause-rows : goal.returns-clause-rows
unfolding live_numbers
returns-clause-rows c =
    let v = c.number-to.ensures.value in let t = c.to.ensures.value in let p = c.number-to.ensures.positive in
    let n = c.loop-number.auto.number-end in let f = c.loop-number-test.false in
    c.loop-number.invariant ∙ ap (λ (n : ℕ). filter (live_at c.args.snapshot.now) (range_with_len 1 (n - 1))) (omega arith)

pub returns-clause-short : goal.returns-clause-short
returns-clause-short c =
    let e = ap length (returns-clause-rows c) in let l = length-live c.args.snapshot.now in let s = c.to.ensures.bounds.short in
    omega (arith, c.loop-number.rows.ok.0)
