use Rattle.std.proofs.Common.{refl, sym, subst}
use Rattle.std.specs.List.{Contains}
use Rattle.std.proofs.lemmas.Bool.{true≢false}
use Rattle.col_set.specs.Lists.{Listed}
use Rattle.col_set.proofs.Places.{Contains-listed, Listed-contained, Listed-get_or}
use Rattle.rel_base.proofs.States.{All-listed}
use Rattle.rel_base.specs.Projection.{part}
use Rattle.lossless_join.specs.NaturalJoin.{TableRows}
use Rattle.lossless_join.proofs.Plain.{All-next, All-whole, moved}
use Rattle.lossless_join.proofs.tests.plain.is_matched.Goals as goal

pub loop-table-preserved : goal.loop-table-preserved
loop-table-preserved c = All-next (λ table. Contains table.rows (part table.columns c.args.row.now)) c.args.tables.now c.loop-table.table-index c.table-item.result c.loop-table-test.true c.table-item.is c.loop-table.invariant ((moved c.table-item.result c.args.row.now c.in_ok-part.part c.rows.result.now c.columns.result c.rows.ensures.value c.columns.ensures.value c.in_ok-part.ensures).0 (c.if-not-is_among.ensures.0 refl))

pub returns-then-not-is_among : goal.returns-then-not-is_among
returns-then-not-is_among c = (
  λ e. absurd (true≢false (sym e)),
  λ m. c.if-not-is_among.ensures.1 ((moved c.table-item.result c.args.row.now c.in_ok-part.part c.rows.result.now c.columns.result c.rows.ensures.value c.columns.ensures.value c.in_ok-part.ensures).1
      (m.each c.table-item.result (Contains-listed c.table-item.result c.args.tables.now (subst (λ (t : TableRows). Listed t c.args.tables.now) (sym c.table-item.is) (Listed-get_or c.args.tables.now c.loop-table.table-index c.table-item.result c.loop-table-test.true))))),
)

pub returns : goal.returns
returns c = (
  λ e. record {
    each = λ t h. All-listed (λ table. Contains table.rows (part table.columns c.args.row.now)) t c.args.tables.now
        (All-whole (λ table. Contains table.rows (part table.columns c.args.row.now)) c.args.tables.now c.loop-table.table-index c.loop-table-test.false c.loop-table.invariant) (Listed-contained t c.args.tables.now h);
  },
  λ m. refl,
)
