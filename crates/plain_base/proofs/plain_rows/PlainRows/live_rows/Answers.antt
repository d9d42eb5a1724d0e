use Rattle.std.proofs.Common.{◌≡◌, ◌∙◌, List, ap, sym, subst, length, map}
use Rattle.std.specs.List.{All}
use Rattle.rel_base.specs.Cells.{Row}
use Rattle.rel_base.specs.RowState.{row, width}
use Rattle.plain_base.proofs.Folds.{take_whole}
use Rattle.plain_base.proofs.Rows.{rows_wide}
use Rattle.plain_base.proofs.plain_rows.PlainRows.live_rows.Goals as goal

pub returns-clause-wide : goal.returns-clause-wide
returns-clause-wide c =
    let r = c.args.self.now in
    subst (λ (rows : List Row). All (λ (x : Row). length x ≡ width r) rows)
    (sym (c.loop-number.invariant ∙ ap (map (row r)) (take_whole c.loop-number.number-index c.live-number-items.result.now c.loop-number-test.false ∙ c.live-number-items.ensures.value))) (rows_wide r c.given-given.ensures.state)
