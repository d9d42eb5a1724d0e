use Rattle.std.proofs.Common.{◌≡◌, ◌<◌, ◌∙◌, ap, sym, subst, ℕ, [], List, length, get_or}
use Rattle.rel_base.specs.CodeTable.{CodeTable}
use Rattle.rel_base.specs.RowState.{next}
use Rattle.rel_base.specs.Shows.{Shows}
use Rattle.row_log.specs.Column.{ColumnCells, AreCodes}
use Rattle.row_log.specs.Table.{column_at}
use Rattle.row_log.proofs.Log.{next-kept, count-kept, IsCodeTable-kept, Shows-kept}
use Rattle.row_log.proofs.row_log.RowLog.snapshot.Goals as goal

-- the codes of each column, wherever the columns and the lists are read
moved : (columns seen : List ColumnCells) (codes copies : List (List ℕ)) → seen ≡ columns → copies ≡ codes → ((j : ℕ) → j < length seen → AreCodes (column_at seen j) (get_or codes j []))
    → (j : ℕ) → j < length columns → AreCodes (column_at columns j) (get_or copies j [])
moved columns seen codes copies e q h =
    subst (λ (xs : List (List ℕ)). (j : ℕ) → j < length columns → AreCodes (column_at columns j) (get_or xs j [])) (sym q)
    (subst (λ (cs : List ColumnCells). (j : ℕ) → j < length cs → AreCodes (column_at cs j) (get_or codes j [])) e h)

pub counted-snapshot-requires-clause-table : goal.counted-snapshot-requires-clause-table
counted-snapshot-requires-clause-table c =
    let v = c.self.inside in
    IsCodeTable-kept v.names v.nulls v.limit v.columns.items v.live.items v.live_len c.self.invariant (record { codes = c.in_ok-codes.codes.items; live = c.in_ok-live.live.items; to = c.next.result })
    (c.in_ok-codes.ensures.long ∙ ap length c.deref.ensures.value)
    (c.next.ensures.value ∙ sym (ap next c.self.view_is) ∙ next-kept v.names v.nulls v.limit v.columns.items v.live.items v.live_len c.self.invariant)
    (c.in_ok-live.ensures.items ∙ c.deref-2.ensures.value)
    (moved v.columns.items c.deref.result.now c.in_ok-codes.codes.items c.in_ok-codes.codes.items c.deref.ensures.value (λ i. c.in_ok-codes.codes.items) c.in_ok-codes.ensures.each)

pub counted-snapshot-requires-clause-count : goal.counted-snapshot-requires-clause-count
counted-snapshot-requires-clause-count c =
    let v = c.self.inside in
    count-kept v.names v.nulls v.limit v.columns.items v.live.items v.live_len c.self.invariant (record { codes = c.in_ok-codes.codes.items; live = c.in_ok-live.live.items; to = c.next.result })
    (c.in_ok-codes.ensures.long ∙ ap length c.deref.ensures.value)
    (c.next.ensures.value ∙ sym (ap next c.self.view_is) ∙ next-kept v.names v.nulls v.limit v.columns.items v.live.items v.live_len c.self.invariant)
    (c.in_ok-live.ensures.items ∙ c.deref-2.ensures.value)
    (moved v.columns.items c.deref.result.now c.in_ok-codes.codes.items c.in_ok-codes.codes.items c.deref.ensures.value (λ i. c.in_ok-codes.codes.items) c.in_ok-codes.ensures.each)

pub returns : goal.returns
returns c =
    let v = c.self.inside in
    let shown : Shows c.counted-snapshot.result _ =
    Shows-kept v.names v.nulls v.limit v.columns.items v.live.items v.live_len c.self.invariant c.counted-snapshot.result
    (ap length c.counted-snapshot.ensures.codes ∙ c.in_ok-codes.ensures.long ∙ ap length c.deref.ensures.value)
    (c.counted-snapshot.ensures.to ∙ c.next.ensures.value ∙ sym (ap next c.self.view_is) ∙ next-kept v.names v.nulls v.limit v.columns.items v.live.items v.live_len c.self.invariant)
    (c.counted-snapshot.ensures.live ∙ c.in_ok-live.ensures.items ∙ c.deref-2.ensures.value)
    (moved v.columns.items c.deref.result.now c.in_ok-codes.codes.items c.counted-snapshot.result.codes c.deref.ensures.value c.counted-snapshot.ensures.codes c.in_ok-codes.ensures.each) in
    subst (λ (s : CodeTable). Shows s c.args.self.now) (sym c.in_ok-new.ensures.ok) (subst (Shows c.counted-snapshot.result) c.self.view_is shown)
