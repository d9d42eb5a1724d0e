use Rattle.std.proofs.Common.{◌≡◌, ◌<◌, ◌≤◌, ◌-◌, ◌∙◌, List, ℕ, take, length, map, get_or, ap, subst, arith}
use Rattle.row_log.specs.Codes.{codes_of}
use Rattle.row_log.specs.Column.{ColumnCells, column_of, IsKept}
use Rattle.row_log.proofs.Columns.{cell_of, cut}
use Rattle.row_log.proofs.column.Column.truncate.Goals as goal
use Rattle.row_log.proofs.column.Column.truncate.Goals.{After-truncate-2}

pub overflow_cast-left : goal.overflow_cast-left
overflow_cast-left c =
    let a = c.self.invariant.0.all in
    let s = c.len-codes.ensures.coding.short in
    let l = c.codes_left-left.ensures.some in
    let e : length c.deref.result.now ≡ length c.self.inside.firsts.items = ap length c.deref.ensures.value in
    omega arith

done : (c : After-truncate-2) → IsKept c.keep.new.self (codes_of c.truncate-2.new.self) c.truncate.new.self.items
    × (column_of c.keep.new.self (codes_of c.truncate-2.new.self) ≡ record { nulls = c.self.inside.dict.nulls; cells = take c.args.rows (map (cell_of c.self.inside.dict.cells) (codes_of c.self.inside.codes)) })
done c =
    let left = c.codes_left-left.result in
    cut c.self.inside.dict c.keep.new.self (codes_of c.self.inside.codes) c.self.inside.firsts.items (codes_of c.truncate-2.new.self) c.truncate.new.self.items c.args.rows left c.self.invariant.0
    (subst (λ (xs : List ℕ). left ≤ length xs) c.deref.ensures.value c.codes_left-left.ensures.some)
    (subst (λ (xs : List ℕ). (k : ℕ) → left ≤ k → k < length xs → c.args.rows ≤ get_or xs k 0) c.deref.ensures.value c.codes_left-left.ensures.dropped)
    (subst (λ (xs : List ℕ). 0 < left → get_or xs (left - 1) 0 < c.args.rows) c.deref.ensures.value c.codes_left-left.ensures.last)
    c.keep.ensures c.truncate-2.ensures.codes c.truncate.ensures.items

pub invariant_of-self : goal.invariant_of-self
invariant_of-self c = ((done c).0, c.truncate-2.ensures.list)

pub returns : goal.returns
returns c = (done c).1 ∙ ap (λ (v : ColumnCells). let x : ColumnCells = record { nulls = v.nulls; cells = take c.args.rows v.cells } in x) c.self.view_is
