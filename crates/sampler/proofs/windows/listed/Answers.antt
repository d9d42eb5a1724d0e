use Rattle.std.proofs.Common.{◌-◌, ◌∙◌, ℕ, ap, arith}
use Rattle.sampler.specs.Partners.{partners_to}
use Rattle.sampler.proofs.Tables.{put_more, put_none}
use Rattle.sampler.proofs.windows.listed.Goals as goal
use Rattle.sampler.proofs.windows.listed.Goals.{then-partner-ne-NO_ROW+in_ok-push, else-partner-ne-NO_ROW}

pub loop-number-preserved : goal.loop-number-preserved
loop-number-preserved c =
    elim c.if-partner-ne-NO_ROW.branch [
      | then-partner-ne-NO_ROW+in_ok-push w ↦
          let more = put_more c.args.partners.now c.loop-number.pairs.items c.loop-number.number c.loop-number.auto.number c.loop-number.invariant w.if-partner-ne-NO_ROW.true in
          let first = w.of.ensures in
          let second = w.of-then-partner-ne-NO_ROW.ensures in
          let pushed = w.in_ok-push.ensures.items in
          let is = w.pairs-is in cc
      | else-partner-ne-NO_ROW w ↦
          let none = put_none c.args.partners.now c.loop-number.pairs.items c.loop-number.number c.loop-number.auto.number c.loop-number.invariant w.if-partner-ne-NO_ROW.false in
          let is = w.pairs-is in cc
    ]

pub returns : goal.returns
returns c =
    let some = c.requires.some in let end = c.loop-number.auto.number-end in let last = c.loop-number-test.false in
    c.loop-number.invariant ∙ ap (λ (n : ℕ). partners_to c.args.partners.now (n - 1)) (omega arith)
