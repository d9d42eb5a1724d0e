use Rattle.std.proofs.Common.{◌∙◌, ◌++◌, ℕ, List, ap, map, take_all}
use Rattle.std.specs.List.{flat_map}
use Rattle.rel_base.specs.Cells.{cell}
use Rattle.rel_base.specs.RowState.{row}
use Rattle.report_text.specs.Line.{line}
use Rattle.table_files.proofs.Texts.{file-text}
use Rattle.task_base.proofs.Facts.{IfOk-map}
use Rattle.table_files.proofs.text.text_of.Goals as goal

pub returns : goal.returns
returns c =
    let list : List ℕ = c.in_ok-list.list.items in
    IfOk-map c.written.result
    (λ text e. file-text c.args.columns list c.args.rows.now.names (row c.args.rows.now) c.args.numbers.now text.items c.in_ok-list.ensures.list
    (e ∙ c.loop-number.invariant.text
    ∙ ap (λ (numbers : List ℕ). line (map (cell c.args.rows.now.names) list) ++ flat_map (λ number. line (map (cell (row c.args.rows.now number)) list)) numbers) (take_all c.loop-number.number-index c.args.numbers.now c.loop-number-test.false)))
    c.written.ensures
