use Rattle.std.proofs.Common.{◌<◌, subst, List, Bool, length, arith}
use Rattle.std.proofs.lemmas.List.{get_or_read}
use Rattle.rel_base.specs.RowState.{RowState}
use Rattle.row_log.specs.Column.{ColumnCells}
use Rattle.row_log.specs.Table.{no_column}
use Rattle.row_log.specs.Distinct.{AreDistinctCells, AreFlaggedCells}
use Rattle.row_log.proofs.Log.{in_width}
use Rattle.row_log.proofs.Distinct.{AreDistinctCells-kept, if_ok}
use Rattle.row_log.proofs.row_log.RowLog.distinct_cells.Goals as goal

pub returns : goal.returns
returns c =
    let v = c.self.inside in
    let l = in_width v.names v.nulls v.limit v.columns.items v.live.items v.live_len c.self.invariant c.args.self.now c.self.view_is c.args.column c.requires in
    let w = c.self.invariant.wide in
    let m : c.args.column < length v.columns.items = omega arith in
    let is = get_or_read v.columns.items c.args.column c.index.result.now m c.index.ensures no_column in
    if_ok c.flagged_cells.result _ (AreDistinctCells c.args.self.now c.args.column) c.flagged_cells.ensures (λ cells f.
    subst (λ (r : RowState). AreDistinctCells r c.args.column cells) c.self.view_is
    (AreDistinctCells-kept v.names v.nulls v.limit v.columns.items v.live.items v.live_len c.self.invariant c.args.column cells l (c.self.invariant.each c.args.column no_column m).long
    (subst (λ (x : ColumnCells). AreFlaggedCells x.cells v.live.items cells) is (subst (λ (fs : List Bool). AreFlaggedCells c.index.result.now.cells fs cells) c.deref.ensures.value f))))
