use Rattle.std.proofs.Common.{◌∙◌, sym, ap, arith}
use Rattle.col_set.specs.Evidence.{refuted}
use Rattle.least_sets.specs.Drafts.{lists_behind}
use Rattle.least_sets.proofs.Filed.{behind_at, refuted-filed}
use Rattle.least_sets.proofs.filing.fewest_containing.Goals as goal
use Rattle.least_sets.proofs.filing.fewest_containing.Goals.{then-has+then-having-fewest, then-has+else-having-fewest, else-has}

pub loop-column-preserved : goal.loop-column-preserved
loop-column-preserved c = λ t.
    let k = c.loop-column.column in
    let count = c.requires.filed.count in
    let test = c.loop-column-test.true in
    elim c.if-has.branch [
      | then-has+then-having-fewest w ↦
          ap (λ b. refuted b.now t c.args.z) w.fewest-is
          ∙ refuted-filed c.args.columns c.args.agree_sets.now (lists_behind c.args.by_column.now) k c.args.z w.as_slice-having.result.now c.requires.filed test (sym c.has.ensures ∙ w.if-has.true)
          (w.as_slice-having.ensures.value ∙ behind_at c.args.by_column.now k w.index-by_column-column.result (omega (arith, count, test)) w.index-by_column-column.is) t
      | then-has+else-having-fewest w ↦ ap (λ b. refuted b.now t c.args.z) w.fewest-is ∙ c.loop-column.invariant t
      | else-has w ↦ ap (λ b. refuted b.now t c.args.z) w.fewest-is ∙ c.loop-column.invariant t
    ]
