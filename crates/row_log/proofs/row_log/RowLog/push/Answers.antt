use Rattle.std.proofs.Common.{◌≡◌, ◌++◌, ◌∷◌, [], ◌∙◌, true, false, List, Bool, subst, ap, sym, length, arith}
use Rattle.std.specs.Vec.{with_items}
use Rattle.std.proofs.lemmas.List.{with_items_is}
use Rattle.rel_base.specs.Cells.{Row}
use Rattle.rel_base.specs.RowState.{RowState, width}
use Rattle.rel_base.specs.Batches.{is_full, inserted}
use Rattle.rel_base.specs.PackedOps.{cells_of, row_at}
use Rattle.row_log.specs.Column.{ColumnCells}
use Rattle.row_log.specs.Table.{HasRow}
use Rattle.row_log.proofs.Log.{kept}
use Rattle.row_log.proofs.Changing.{live-few, room-kept, IsLog-pushed, kept-pushed}
use Rattle.row_log.proofs.row_log.RowLog.push.Goals as goal

pub push_row-requires-clause-room : goal.push_row-requires-clause-room
push_row-requires-clause-room c =
    let v = c.self.inside in
    let l = room-kept v.names v.nulls v.limit v.columns.items v.live.items v.live_len c.self.invariant (subst (λ (r : RowState). is_full r ≡ false) (sym c.self.view_is) c.requires.room) in
    let e = c.len.ensures ∙ c.reserve.new.self.ok.0 ∙ ap length c.reserve.ensures.items in
    omega arith

pub overflow_add-self : goal.overflow_add-self
overflow_add-self c =
    let v = c.self.inside in
    let l = live-few v.names v.nulls v.limit v.columns.items v.live.items v.live_len c.self.invariant in
    let s = c.self.invariant.short in
    omega arith

-- the columns with the row, as the vector has them
has_row : (old seen new kept : List ColumnCells) (row : Row) → seen ≡ old → kept ≡ new → HasRow seen row new → HasRow old row kept
has_row old seen new kept row e q h = subst (λ (cs : List ColumnCells). HasRow old row cs) (sym q) (subst (λ (cs : List ColumnCells). HasRow cs row new) e h)

pub invariant_of-self-2 : goal.invariant_of-self-2
invariant_of-self-2 c =
    let v = c.self.inside in
    let l = room-kept v.names v.nulls v.limit v.columns.items v.live.items v.live_len c.self.invariant (subst (λ (r : RowState). is_full r ≡ false) (sym c.self.view_is) c.requires.room) in
    IsLog-pushed v.names v.nulls v.limit v.columns.items v.live.items v.live_len c.self.invariant (with_items v.columns c.push_row.new.columns).items (row_at (cells_of c.args.batch.now) c.args.row) c.append_live.new.flags.items
    (c.requires.wide ∙ sym (ap width c.self.view_is))
    (has_row v.columns.items c.deref_mut.result.now c.push_row.new.columns _ (row_at (cells_of c.args.batch.now) c.args.row) c.deref_mut.ensures.value
    (with_items_is v.columns c.push_row.new.columns (c.in_ok-push_row.ensures.pushed.long ∙ c.deref_mut.ensures.len)) c.in_ok-push_row.ensures.pushed)
    (c.append_live.ensures ∙ ap (λ (xs : List Bool). xs ++ true ∷ []) c.reserve.ensures.items) l

pub returns-clause-pushed : goal.returns-clause-pushed
returns-clause-pushed c =
    let v = c.self.inside in
    let l = room-kept v.names v.nulls v.limit v.columns.items v.live.items v.live_len c.self.invariant (subst (λ (r : RowState). is_full r ≡ false) (sym c.self.view_is) c.requires.room) in
    kept-pushed v.names v.nulls v.limit v.columns.items v.live.items v.live_len c.self.invariant (with_items v.columns c.push_row.new.columns).items (row_at (cells_of c.args.batch.now) c.args.row) c.append_live.new.flags.items
    (c.requires.wide ∙ sym (ap width c.self.view_is))
    (has_row v.columns.items c.deref_mut.result.now c.push_row.new.columns _ (row_at (cells_of c.args.batch.now) c.args.row) c.deref_mut.ensures.value
    (with_items_is v.columns c.push_row.new.columns (c.in_ok-push_row.ensures.pushed.long ∙ c.deref_mut.ensures.len)) c.in_ok-push_row.ensures.pushed)
    (c.append_live.ensures ∙ ap (λ (xs : List Bool). xs ++ true ∷ []) c.reserve.ensures.items) l
    ∙ ap (λ (r : RowState). inserted r (row_at (cells_of c.args.batch.now) c.args.row)) c.self.view_is
