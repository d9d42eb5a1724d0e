use Rattle.std.proofs.Common.{◌-◌, ℕ, sym, ap, ◌∙◌, arith}
use Rattle.std.specs.List.{filter, range_with_len}
use Rattle.stripped_partition.proofs.Coding.{live_yes, live_not}
use Rattle.first_rows.specs.Marked.{is_unmarked, unmarked_rows}
use Rattle.first_rows.proofs.first.unmarked.Goals as goal
use Rattle.first_rows.proofs.first.unmarked.Goals.{then-is_first+in_ok-push, else-is_first}

pub loop-number-preserved : goal.loop-number-preserved
loop-number-preserved c =
    let here = sym (ap (is_unmarked c.args.snapshot.now c.args.later.now) c.of-row.ensures) in
    let row = c.of-row.ensures in
    elim c.if-is_first.branch [
      | then-is_first+in_ok-push w ↦
          let y = live_yes (is_unmarked c.args.snapshot.now c.args.later.now) c.loop-number.rows.items c.loop-number.number c.loop-number.auto.number c.loop-number.invariant (here ∙ sym c.is_first.ensures ∙ w.if-is_first.true) in
          let i = w.in_ok-push.ensures.items in
          let r = w.rows-is in cc
      | else-is_first w ↦
          let y = live_not (is_unmarked c.args.snapshot.now c.args.later.now) c.loop-number.rows.items c.loop-number.number c.loop-number.auto.number c.loop-number.invariant (here ∙ sym c.is_first.ensures ∙ w.if-is_first.false) in
          let r = w.rows-is in cc
    ]

pub returns : goal.returns
unfolding unmarked_rows
returns c =
    let v = c.number-number-end.ensures.value in let t = c.to.ensures.value in let p = c.number-number-end.ensures.positive in
    let n = c.loop-number.auto.number-end in let f = c.loop-number-test.false in
    c.loop-number.invariant ∙ ap (λ (n : ℕ). filter (is_unmarked c.args.snapshot.now c.args.later.now) (range_with_len 1 (n - 1))) (omega arith)
