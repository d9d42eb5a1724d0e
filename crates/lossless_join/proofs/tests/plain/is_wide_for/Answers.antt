use Rattle.std.proofs.Common.{◌<◌, ◌^◌, ℕ, refl, subst, length}
use Rattle.lossless_join.proofs.Plain.{All-next, All-whole}
use Rattle.lossless_join.proofs.tests.plain.is_wide_for.Goals as goal

pub loop-table-preserved : goal.loop-table-preserved
loop-table-preserved c = All-next (λ table. table.columns < 2 ^ length c.args.row.now) c.args.tables.now c.loop-table.table-index c.table-item.result c.loop-table-test.true c.table-item.is c.loop-table.invariant (subst (λ (columns : ℕ). columns < 2 ^ length c.args.row.now) c.columns.ensures.value (c.if-not-is_wide.ensures refl))

pub returns : goal.returns
returns c e = All-whole (λ table. table.columns < 2 ^ length c.args.row.now) c.args.tables.now c.loop-table.table-index c.loop-table-test.false c.loop-table.invariant
