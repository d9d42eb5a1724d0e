use Rattle.std.proofs.Common.{inl, inr, ◌∙◌, ◌++◌, ◌∷◌, [], ℕ, ap, sym, subst, map, List, length, arith}
use Rattle.std.proofs.lemmas.List.{map_push}
use Rattle.rel_base.specs.Cells.{Cell}
use Rattle.row_log.specs.Codes.{codes_of}
use Rattle.row_log.specs.Column.{ColumnCells}
use Rattle.row_log.specs.Distinct.{AreFlaggedCells, AreUsed}
use Rattle.row_log.proofs.Distinct.{AreFlaggedCells-all, if_ok, looked_at}
use Rattle.row_log.proofs.column.Column.flagged_cells.Goals as goal
use Rattle.row_log.proofs.column.Column.flagged_cells.Goals.{then-is_wanted+in_ok-push, else-is_wanted}

pub loop-code-preserved : goal.loop-code-preserved
loop-code-preserved c =
    let t = c.loop-code-test.true in
    let u = c.in_ok-used.ensures.long in
    looked_at c.self.inside.dict c.in_ok-used.used.items c.loop-code.code (map (λ b. b.now) c.loop-code.cells.items) (map (λ b. b.now) c.if-is_wanted.cells.items) c.cell-cell.result.now c.index.result.now
    c.len-count.ensures.coding c.loop-code.invariant c.cell-cell.ensures c.index.ensures (omega arith)
    (elim c.if-is_wanted.branch [
      | then-is_wanted+in_ok-push w ↦
          let v = c.is_wanted.ensures.yes w.if-is_wanted.true in
          inl (
            v.0,
            v.1,
            ap (λ z. map (λ b. b.now) z.items) w.cells-is ∙ ap (map (λ b. b.now)) w.in_ok-push.ensures.items ∙ map_push (λ b. b.now) c.loop-code.cells.items w.bytes.result
                ∙ ap (λ (x : Cell). map (λ b. b.now) c.loop-code.cells.items ++ x ∷ []) w.bytes.ensures,
          )
      | else-is_wanted w ↦ inr (c.is_wanted.ensures.no w.if-is_wanted.false, ap (λ z. map (λ b. b.now) z.items) w.cells-is)
    ])

pub returns : goal.returns
returns c =
    let f = c.loop-code-test.false in
    let n = c.len-count.ensures.len in
    let taken : AreFlaggedCells c.args.self.now.cells c.args.flags.now (map (λ b. b.now) c.loop-code.cells.items) =
    subst (λ (v : ColumnCells). AreFlaggedCells v.cells c.args.flags.now (map (λ b. b.now) c.loop-code.cells.items)) c.self.view_is
    (AreFlaggedCells-all c.self.inside.dict (codes_of c.self.inside.codes) c.args.flags.now c.in_ok-used.used.items c.loop-code.code (length (codes_of c.self.inside.codes)) _ c.self.invariant.0.known
    (subst (λ (codes : List ℕ). AreUsed c.args.flags.now codes (length codes) c.in_ok-used.used.items) c.parts.ensures c.in_ok-used.ensures.used) (λ i. length (codes_of c.self.inside.codes)) (omega arith) c.loop-code.invariant) in
    if_ok c.copied.result _ (AreFlaggedCells c.args.self.now.cells c.args.flags.now) c.copied.ensures (λ v e. subst (AreFlaggedCells c.args.self.now.cells c.args.flags.now) (sym (e ∙ ap (map (λ b. b.now)) c.deref.ensures.value)) taken)
