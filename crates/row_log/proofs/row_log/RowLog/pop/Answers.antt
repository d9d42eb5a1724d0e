use Rattle.std.proofs.Common.{◌≡◌, ◌-◌, ◌∙◌, ℕ, List, map, take, length, ap, ap₂, arith}
use Rattle.std.specs.Vec.{with_items}
use Rattle.std.proofs.lemmas.List.{with_items_is, length-map}
use Rattle.row_log.specs.Column.{ColumnCells}
use Rattle.row_log.proofs.Rows.{cut_at}
use Rattle.row_log.proofs.Changing.{some-flag, IsLog-popped, kept-popped}
use Rattle.row_log.proofs.row_log.RowLog.pop.Goals as goal

pub overflow_sub-rows : goal.overflow_sub-rows
overflow_sub-rows c =
    let v = c.self.inside in
    let l = some-flag v.names v.nulls v.limit v.columns.items v.live.items v.live_len c.self.invariant c.requires.0 c.args.self.now c.requires.1.row c.self.view_is c.requires.1.came in
    let e = c.len-rows.ensures ∙ v.live.ok.0 in
    omega arith

-- the shorter columns, as the vector has them
cut_are : (columns seen new kept : List ColumnCells) (m n : ℕ) → seen ≡ columns → kept ≡ new → m ≡ n → new ≡ map (cut_at m) seen → kept ≡ map (cut_at n) columns
cut_are columns seen new kept m n e q i h = q ∙ h ∙ ap₂ (λ (k : ℕ) (cs : List ColumnCells). map (cut_at k) cs) i e

pub invariant_of-self : goal.invariant_of-self
invariant_of-self c =
    let v = c.self.inside in
    let rows : c.len-rows.result - 1 ≡ length v.live.items - 1 = ap (λ (n : ℕ). n - 1) (c.len-rows.ensures ∙ v.live.ok.0) in
    IsLog-popped v.names v.nulls v.limit v.columns.items v.live.items v.live_len c.self.invariant c.requires.0 c.args.self.now c.requires.1.row c.self.view_is c.requires.1.came
    (with_items v.columns c.truncate_rows.new.columns).items c.truncate.new.self.items
    (cut_are v.columns.items c.deref_mut.result.now c.truncate_rows.new.columns _ (c.len-rows.result - 1) (length v.live.items - 1) c.deref_mut.ensures.value
    (with_items_is v.columns c.truncate_rows.new.columns (ap length c.truncate_rows.ensures ∙ length-map c.deref_mut.result.now (cut_at (c.len-rows.result - 1)) ∙ c.deref_mut.ensures.len)) rows c.truncate_rows.ensures)
    (c.truncate.ensures.items ∙ ap (λ (n : ℕ). take n v.live.items) rows)

pub returns : goal.returns
returns c r e =
    let v = c.self.inside in
    let rows : c.len-rows.result - 1 ≡ length v.live.items - 1 = ap (λ (n : ℕ). n - 1) (c.len-rows.ensures ∙ v.live.ok.0) in
    kept-popped v.names v.nulls v.limit v.columns.items v.live.items v.live_len c.self.invariant r c.args.self.now e.row c.self.view_is e.came
    (with_items v.columns c.truncate_rows.new.columns).items c.truncate.new.self.items
    (cut_are v.columns.items c.deref_mut.result.now c.truncate_rows.new.columns _ (c.len-rows.result - 1) (length v.live.items - 1) c.deref_mut.ensures.value
    (with_items_is v.columns c.truncate_rows.new.columns (ap length c.truncate_rows.ensures ∙ length-map c.deref_mut.result.now (cut_at (c.len-rows.result - 1)) ∙ c.deref_mut.ensures.len)) rows c.truncate_rows.ensures)
    (c.truncate.ensures.items ∙ ap (λ (n : ℕ). take n v.live.items) rows)
