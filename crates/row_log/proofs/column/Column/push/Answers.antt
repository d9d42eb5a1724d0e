use Rattle.std.proofs.Common.{◌≡◌, ◌≤◌, ◌∷◌, [], ◌++◌, ℕ, List, length, map, take, sym, subst, ap, ap₂, ◌∙◌, arith}
use Rattle.row_log.specs.Codes.{codes_of, shared_of, IsCodeList}
use Rattle.row_log.specs.Column.{ColumnCells, column_of, IsKept}
use Rattle.row_log.proofs.Columns.{cell_of, one_more, pushed}
use Rattle.row_log.proofs.column.Column.push.Goals as goal
use Rattle.row_log.proofs.column.Column.push.Goals.{After-append-2, then-known-len, else-known-len}

-- the codes with the new one
abbrev after : After-append-2 → List ℕ
after c = take c.if-known-len.self-inside.codes.kept (shared_of c.if-known-len.self-inside.codes) ++ c.append-2.new.list.items

-- the codes and their first places, whether the cell was new or not
done : (c : After-append-2) → IsKept c.if-known-len.self-inside.dict (after c) c.if-known-len.self-inside.firsts.items
    × (column_of c.if-known-len.self-inside.dict (after c)
    ≡ record { nulls = c.self.inside.dict.nulls; cells = map (cell_of c.self.inside.dict.cells) (codes_of c.self.inside.codes) ++ c.args.bytes.now ∷ [] })
done c =
    let known = c.len-known.ensures.len in
    let grown = c.len.ensures.len in
    let first = one_more (take c.if-known-len.self-inside.codes.kept (shared_of c.if-known-len.self-inside.codes)) c.if-known-len.self-inside.codes.own.items c.append-2.new.list.items c.in_ok-code.code c.append-2.ensures in
    elim c.if-known-len.branch [
      | then-known-len w ↦
          let grew = w.if-known-len.true in
          pushed c.self.inside.dict c.code_of.new.self c.if-known-len.self-inside.dict (codes_of c.self.inside.codes) c.self.inside.firsts.items (after c) c.if-known-len.self-inside.firsts.items
          c.args.bytes.now c.in_ok-code.code c.self.invariant.0 c.in_ok-code.ensures.cells c.in_ok-code.ensures.cell c.in_ok-code.ensures.agrees
          (ap (λ i. i.dict) w.self-inside-is)
          (first ∙ ap (λ i. codes_of i.codes ++ c.in_ok-code.code ∷ []) w.self-inside-is ∙ ap (λ (xs : List ℕ). (take c.self.inside.codes.kept (shared_of c.self.inside.codes) ++ xs) ++ c.in_ok-code.code ∷ []) c.reserve.ensures.items)
          (λ l. ap (λ i. i.firsts.items) w.self-inside-is ∙ w.append.ensures
          ∙ ap₂ (λ (xs : List ℕ) (n : ℕ). xs ++ n ∷ []) c.reserve-2.ensures.items (w.len-then-known-len.ensures ∙ ap (λ (xs : List ℕ). length (take c.self.inside.codes.kept (shared_of c.self.inside.codes) ++ xs)) c.reserve.ensures.items))
          (λ l. absurd (omega arith))
      | else-known-len w ↦
          let same = w.if-known-len.false in
          pushed c.self.inside.dict c.code_of.new.self c.if-known-len.self-inside.dict (codes_of c.self.inside.codes) c.self.inside.firsts.items (after c) c.if-known-len.self-inside.firsts.items
          c.args.bytes.now c.in_ok-code.code c.self.invariant.0 c.in_ok-code.ensures.cells c.in_ok-code.ensures.cell c.in_ok-code.ensures.agrees
          (ap (λ i. i.dict) w.self-inside-is)
          (first ∙ ap (λ i. codes_of i.codes ++ c.in_ok-code.code ∷ []) w.self-inside-is ∙ ap (λ (xs : List ℕ). (take c.self.inside.codes.kept (shared_of c.self.inside.codes) ++ xs) ++ c.in_ok-code.code ∷ []) c.reserve.ensures.items)
          (λ l. absurd (omega arith))
          (λ l. ap (λ i. i.firsts.items) w.self-inside-is ∙ c.reserve-2.ensures.items)
    ]

-- what is kept of the shared codes is as before
kept : (c : After-append-2) → c.if-known-len.self-inside.codes.kept ≤ length (shared_of c.if-known-len.self-inside.codes)
kept c = elim c.if-known-len.branch [
  | then-known-len w ↦ subst (λ i. IsCodeList i.codes) (sym w.self-inside-is) c.self.invariant.1
  | else-known-len w ↦ subst (λ i. IsCodeList i.codes) (sym w.self-inside-is) c.self.invariant.1
]

pub invariant_of-self-2 : goal.invariant_of-self-2
invariant_of-self-2 c = ((done c).0, kept c)

pub returns-clause-pushed : goal.returns-clause-pushed
returns-clause-pushed c = (done c).1 ∙ ap (λ (v : ColumnCells). let x : ColumnCells = record { nulls = v.nulls; cells = v.cells ++ c.args.bytes.now ∷ [] } in x) c.self.view_is
