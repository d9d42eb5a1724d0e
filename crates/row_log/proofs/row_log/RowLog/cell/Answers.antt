use Rattle.std.proofs.Common.{◌≡◌, ◌-◌, ◌<◌, ◌∙◌, ℕ, [], List, length, get_or, ap, sym, arith}
use Rattle.std.proofs.lemmas.List.{get_or_read}
use Rattle.rel_base.specs.Cells.{cell}
use Rattle.rel_base.specs.RowState.{RowState, row}
use Rattle.row_log.specs.Column.{ColumnCells}
use Rattle.row_log.specs.Table.{no_column, column_at}
use Rattle.row_log.proofs.Log.{cell-kept, placed, in_width}
use Rattle.row_log.proofs.row_log.RowLog.cell.Goals as goal

-- the column is read at its place
is_column : (columns : List ColumnCells) (k w : ℕ) (x : ColumnCells) → k < w → length columns ≡ w → x ≡ get_or columns k x → x ≡ column_at columns k
is_column columns k w x l e i = get_or_read columns k x (omega arith) i no_column

pub cell-requires : goal.cell-requires
cell-requires c =
    let v = c.self.inside in
    let w = c.self.invariant.wide in
    let l = in_width v.names v.nulls v.limit v.columns.items v.live.items v.live_len c.self.invariant c.args.self.now c.self.view_is c.args.column c.requires.column in
    let e = (c.self.invariant.each c.args.column no_column (omega arith)).long in
    let s : length c.index.result.now.cells ≡ length (column_at c.self.inside.columns.items c.args.column).cells = ap (λ (x : ColumnCells). length x.cells) (is_column v.columns.items c.args.column (length v.names) c.index.result.now l w c.index.ensures) in
    let q = c.number.ensures.value in
    let r = c.number.ensures.positive in
    let p = placed v.names v.nulls v.limit v.columns.items v.live.items v.live_len c.self.invariant c.args.self.now c.self.view_is c.args.number (omega arith) c.requires.given in
    omega arith

pub returns : goal.returns
returns c =
    let v = c.self.inside in
    let l = in_width v.names v.nulls v.limit v.columns.items v.live.items v.live_len c.self.invariant c.args.self.now c.self.view_is c.args.column c.requires.column in
    let q = c.number.ensures.value in
    let r = c.number.ensures.positive in
    let p = placed v.names v.nulls v.limit v.columns.items v.live.items v.live_len c.self.invariant c.args.self.now c.self.view_is c.args.number (omega arith) c.requires.given in
    c.cell.ensures ∙ ap (λ (x : ColumnCells). get_or x.cells (c.number.result - 1) []) (is_column v.columns.items c.args.column (length v.names) c.index.result.now l c.self.invariant.wide c.index.ensures)
    ∙ ap (λ (k : ℕ). get_or (column_at c.self.inside.columns.items c.args.column).cells (k - 1) []) c.number.ensures.value
    ∙ sym (cell-kept v.names v.nulls v.limit v.columns.items v.live.items v.live_len c.self.invariant c.args.number c.args.column p l)
    ∙ ap (λ (r : RowState). cell (row r c.args.number) c.args.column) c.self.view_is
