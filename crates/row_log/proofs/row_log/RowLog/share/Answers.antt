use Rattle.std.proofs.Common.{◌∙◌, List, length, subst, sym, ap}
use Rattle.row_log.specs.Column.{ColumnCells}
use Rattle.row_log.specs.Table.{IsLog}
use Rattle.row_log.proofs.Log.{kept}
use Rattle.row_log.proofs.row_log.RowLog.share.Goals as goal

pub invariant_of-self : goal.invariant_of-self
invariant_of-self c =
    let v = c.self.inside in
    subst (λ (columns : List ColumnCells). IsLog (length v.names) v.nulls v.limit columns v.live.items v.live_len) (sym c.share_codes.ensures) c.self.invariant

pub returns : goal.returns
returns c =
    let v = c.self.inside in
    ap (λ (columns : List ColumnCells). kept v.names v.nulls v.limit columns v.live.items) c.share_codes.ensures ∙ c.self.view_is
