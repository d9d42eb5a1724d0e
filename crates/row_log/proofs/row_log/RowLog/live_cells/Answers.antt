use Rattle.std.proofs.Common.{◌≡◌, ◌<◌, ℕ, Bool, List, length, subst}
use Rattle.rel_base.specs.RowState.{RowState}
use Rattle.row_log.specs.Column.{ColumnCells}
use Rattle.row_log.specs.Table.{column_at, no_column}
use Rattle.row_log.specs.Live.{AreLiveColumns, AreMarked, marked_at}
use Rattle.row_log.proofs.Marks.{AreLiveColumns-kept}
use Rattle.row_log.proofs.row_log.RowLog.live_cells.Goals as goal

pub invariant_of-result : goal.invariant_of-result
invariant_of-result c =
    let v = c.self.inside in
    let marked = c.in_ok-columns.columns.items in
    let long : length marked ≡ length v.columns.items = subst (λ (cs : List ColumnCells). length marked ≡ length cs) c.deref.ensures.value c.in_ok-columns.ensures.long in
    let each : (j : ℕ) → j < length v.columns.items → AreMarked (column_at v.columns.items j).cells v.live.items (marked_at marked j) =
    subst (λ (flags : List Bool). (j : ℕ) → j < length v.columns.items → AreMarked (column_at v.columns.items j).cells flags (marked_at marked j)) c.deref-2.ensures.value
    (subst (λ (cs : List ColumnCells). (j : ℕ) → j < length cs → AreMarked (column_at cs j).cells c.deref-2.result.now (marked_at marked j)) c.deref.ensures.value c.in_ok-columns.ensures.each) in
    subst (λ (r : RowState). AreLiveColumns r marked) c.self.view_is
    (AreLiveColumns-kept v.names v.nulls v.limit v.columns.items v.live.items v.live_len c.self.invariant marked long each (λ j l. (c.self.invariant.each j no_column l).long))
