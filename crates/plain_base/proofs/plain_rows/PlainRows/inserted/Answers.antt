use Rattle.std.proofs.Common.{◌≡◌, ◌≤◌, ◌+◌, ◌∷◌, ◌++◌, ◌∙◌, ℕ, [], ap, sym, length, arith}
use Rattle.rel_base.specs.Cells.{Row}
use Rattle.rel_base.specs.RowState.{RowState, width}
use Rattle.plain_base.proofs.Rows.{grown-state}
use Rattle.plain_base.proofs.plain_rows.PlainRows.inserted.Goals as goal

pub invariant_of-rows : goal.invariant_of-rows
invariant_of-rows c =
    let s = c.rows.inside in
    let same_limit : s.limit ≡ c.self.inside.limit = ap (λ (r : RowState). r.limit) (c.rows.view_is ∙ sym c.self.view_is) in
    let same_rows : length s.given.items ≡ length c.self.inside.given.items = ap (λ (r : RowState). length r.given) (c.rows.view_is ∙ sym c.self.view_is) in
    let counted : c.len.result ≡ length s.given.items = let e = c.len.ensures in omega (arith, c.self.inside.given.ok.0) in
    let room : length s.given.items + 1 ≤ s.limit = let l = c.if-next-self.false in omega arith in
    grown-state (record { names = s.names; nulls = s.nulls; limit = s.limit; given = s.given.items; live = s.live.items }) c.args.row.now c.push.new.self.items c.push-2.new.self.items c.rows.invariant
    (c.requires ∙ ap (λ (r : RowState). width r) (sym c.rows.view_is)) room
    (c.in_ok-push.ensures.items ∙ ap (λ (row : Row). s.given.items ++ row ∷ []) c.in_ok-clone.ensures)
    (c.in_ok-push-2.ensures.items ∙ ap (λ (n : ℕ). s.live.items ++ n ∷ []) (ap (λ (n : ℕ). n + 1) counted))
