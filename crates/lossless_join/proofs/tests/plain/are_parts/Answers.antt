use Rattle.std.proofs.Common.{◌≡◌, ◌∙◌, sym, length}
use Rattle.col_set.specs.ColSet.{size}
use Rattle.lossless_join.proofs.Plain.{All-next, All-whole}
use Rattle.lossless_join.proofs.tests.plain.are_parts.Goals as goal

pub loop-row-preserved : goal.loop-row-preserved
loop-row-preserved c = All-next (λ row. length row ≡ size c.args.columns) c.args.rows.now c.loop-row.row-index c.row-item.result c.loop-row-test.true c.row-item.is c.loop-row.invariant (sym c.len.ensures ∙ c.if-len.false ∙ c.len-in-loop-row.ensures.value)

pub returns : goal.returns
returns c e = All-whole (λ row. length row ≡ size c.args.columns) c.args.rows.now c.loop-row.row-index c.loop-row-test.false c.loop-row.invariant
