use Rattle.std.proofs.Common.{◌≡◌, ◌∙◌, ℕ, ap, IfOk}
use Rattle.rayon.proofs.ToStd.{slice-AllZip}
use Rattle.rel_base.specs.declared.dependency.Table.{Table}
use Rattle.task_base.proofs.Facts.{IfOk-map}
use Rattle.table_files.specs.declared.sheets.Sheet.{Sheet}
use Rattle.table_files.specs.Sheets.{IsSheet, table_behind}
use Rattle.table_files.proofs.Made.{all_of, each_made, told_of}
use Rattle.table_files.proofs.sheets.sheets_by.Goals as goal

pub returns-clause-sheets : goal.returns-clause-sheets
returns-clause-sheets g c =
    let R : ℕ × Table → Sheet → Type 0 = λ numbered sheet. IsSheet c.args.rows.now sheet × (table_behind sheet ≡ numbered) in
    let made = c.in_ok-made.ensures in
    let slice = ap (λ it. it.base.slice.now) c.map.ensures.base ∙ ap (λ it. it.slice.now) c.with_min_len.ensures.base ∙ c.par_iter.ensures in
    let chain = rw (c.map.ensures.f) at made.1 in
    let zip = slice-AllZip chain.0 c.args.numbered.now (chain.1 ∙ slice) (λ numbered r. IfOk r (R numbered)) made.0 chain.2 in
    IfOk-map c.in_ok-made.made (λ sheets h. all_of (IsSheet c.args.rows.now) table_behind c.args.numbered.now sheets.items h) (each_made R c.args.numbered.now made.0 c.in_ok-made.made zip made.2)

pub returns-clause-tables : goal.returns-clause-tables
returns-clause-tables g c =
    let R : ℕ × Table → Sheet → Type 0 = λ numbered sheet. IsSheet c.args.rows.now sheet × (table_behind sheet ≡ numbered) in
    let made = c.in_ok-made.ensures in
    let slice = ap (λ it. it.base.slice.now) c.map.ensures.base ∙ ap (λ it. it.slice.now) c.with_min_len.ensures.base ∙ c.par_iter.ensures in
    let chain = rw (c.map.ensures.f) at made.1 in
    let zip = slice-AllZip chain.0 c.args.numbered.now (chain.1 ∙ slice) (λ numbered r. IfOk r (R numbered)) made.0 chain.2 in
    IfOk-map c.in_ok-made.made (λ sheets h. told_of (IsSheet c.args.rows.now) table_behind c.args.numbered.now sheets.items h) (each_made R c.args.numbered.now made.0 c.in_ok-made.made zip made.2)
