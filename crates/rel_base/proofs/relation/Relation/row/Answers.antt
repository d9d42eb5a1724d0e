use Rattle.std.proofs.Common.{◌≡◌, ◌<◌, ◌∙◌, ap, arith, ℕ, List, [], length, map, take, get_or, Bor}
use Rattle.rel_base.specs.Cells.{Row}
use Rattle.rel_base.specs.Relation.{Content}
use Rattle.rel_base.proofs.Across.{length-across, row-made, if_made}
use Rattle.rel_base.proofs.relation.Relation.row.Goals as goal

-- the place is one of a row
there : (place n : ℕ) (now : Content) (rows : List Row) → place < length now.rows → rows ≡ now.rows → length rows ≡ n → place < n
there place n now rows l e f = let h = ap length e in omega (arith, l, h, f)

pub get-requires : goal.get-requires
get-requires c =
    let columns = c.self.inside.columns.items in
    let l = there c.args.place c.self.inside.count c.args.self.now _ c.requires (ap (λ (r : Content). r.rows) c.self.view_is) (length-across columns c.self.inside.count) in
    let t = c.loop-column-test.true in
    let v = ap length c.deref-column-items.ensures.value in
    let e = c.self.invariant.even c.loop-column.column-index c.column-item.result (omega (arith, t, v)) in
    let s = ap length (c.column-item.is ∙ ap (λ (cs : List (List (List ℕ))). get_or cs c.loop-column.column-index c.column-item.result) c.deref-column-items.ensures.value) in
    omega (arith, l, e, s)

pub returns : goal.returns
returns c =
    let columns = c.self.inside.columns.items in
    let rows = ap (λ (r : Content). r.rows) c.self.view_is in
    let l = there c.args.place c.self.inside.count c.args.self.now _ c.requires rows (length-across columns c.self.inside.count) in
    let f = c.loop-column-test.false in
    let v = ap length c.deref-column-items.ensures.value in
    if_made c.copied.result (map (λ (cell : Bor (List ℕ)). cell.now) c.deref.result.now) (get_or c.args.self.now.rows c.args.place []) c.copied.ensures
    (ap (map (λ (cell : Bor (List ℕ)). cell.now)) c.deref.ensures.value ∙ c.loop-column.invariant
    ∙ ap (λ (cs : List (List (List ℕ))). map (λ (cells : List (List ℕ)). get_or cells c.args.place []) (take c.loop-column.column-index cs)) c.deref-column-items.ensures.value
    ∙ row-made columns c.self.inside.count c.args.place c.loop-column.column-index l (omega (arith, f, v))
    ∙ ap (λ (rs : List Row). get_or rs c.args.place []) rows)
