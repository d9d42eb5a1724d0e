use Rattle.std.proofs.Common.{◌∙◌, ◌∷◌, ◌++◌, List, [], Vec, Global, Bor, sym, ap, map, arith}
use Rattle.std.proofs.lemmas.List.{map-append}
use Rattle.col_set.specs.ColSet.{has}
use Rattle.rel_base.specs.Cells.{Cell, cell}
use Rattle.plain_base.proofs.Folds.{ok_is}
use Rattle.plain_base.proofs.RowParts.{cells_pushed, cells_left, part_below}
use Rattle.plain_base.proofs.projection.part.Goals as goal
use Rattle.plain_base.proofs.projection.part.Goals.{then-has+in_ok-push, else-has}

pub loop-column-preserved : goal.loop-column-preserved
loop-column-preserved c = elim c.if-has.branch [
  | then-has+in_ok-push w ↦
      ap (λ (v : Vec (Bor (List _)) Global). map (λ b. b.now) v.items) w.cells-is
      ∙ ap (map (λ b. b.now)) w.in_ok-push.ensures.items
      ∙ map-append (λ b. b.now) c.loop-column.cells.items (w.cell.result ∷ [])
      ∙ ap (λ (cells : List Cell). cells ++ w.cell.result.now ∷ []) c.loop-column.invariant
      ∙ ap (λ (x : Cell). map (cell c.args.row.now) _ ++ x ∷ []) w.cell.ensures
      ∙ cells_pushed (cell c.args.row.now) (has c.args.columns) c.loop-column.column (sym c.has.ensures ∙ w.if-has.true)
  | else-has w ↦
      ap (λ (v : Vec (Bor (List _)) Global). map (λ b. b.now) v.items) w.cells-is
      ∙ c.loop-column.invariant
      ∙ cells_left (cell c.args.row.now) (has c.args.columns) c.loop-column.column (sym c.has.ensures ∙ w.if-has.false)
]

pub returns : goal.returns
returns c =
    let l = c.loop-column-test.false in
    let m = c.loop-column.auto.column-end in
    let e = c.len-column-end.ensures in
    ok_is c.copied.result _ _
    (ap (map (λ b. b.now)) c.deref.ensures.value ∙ c.loop-column.invariant ∙ part_below c.args.columns c.args.row.now c.loop-column.column (omega arith) c.requires.inside) c.copied.ensures
