use Rattle.std.proofs.Common.{◌≡◌, ◌<◌, ◌∙◌, ℕ, List, ap, sym, length, map, refl}
use Rattle.rel_base.specs.Cells.{Row, cell}
use Rattle.rel_base.specs.declared.nulls.Nulls.{Nulls}
use Rattle.rel_base.specs.Relation.{Content}
use Rattle.row_log.specs.Column.{ColumnCells}
use Rattle.row_log.specs.Table.{column_at, AreColumnsOf}
use Rattle.row_log.proofs.Log.{IsLog-opened, kept-opened}
use Rattle.row_log.proofs.row_log.RowLog.coded.Goals as goal

pub invariant_of-result : goal.invariant_of-result
invariant_of-result c =
    let rows = c.requires.0 in
    let coded = c.requires.1 in
    let relation : Content = record { names = c.args.names; rows = rows } in
    IsLog-opened relation coded.content c.args.names c.args.nulls c.args.limits.rows (length c.args.names) c.args.count c.len.result rows c.args.columns.items c.in_ok-live.live.items
    refl refl c.args.limits.few_rows coded.columns_are.long refl
    coded.columns_are.each
    (c.in_ok-live.ensures.items_if_clones_equal (λ y e. e)) (sym coded.many) (c.len.ensures ∙ c.in_ok-live.live.ok.0)

pub returns : goal.returns
returns c rows coded =
    let relation : Content = record { names = c.args.names; rows = rows } in
    kept-opened relation coded.content c.args.names c.args.nulls c.args.limits.rows (length c.args.names) c.args.count c.len.result rows c.args.columns.items c.in_ok-live.live.items
    refl refl c.args.limits.few_rows coded.columns_are.long refl
    coded.columns_are.each
    (c.in_ok-live.ensures.items_if_clones_equal (λ y e. e)) (sym coded.many) (c.len.ensures ∙ c.in_ok-live.live.ok.0)
