use Rattle.std.proofs.Common.{◌∙◌, ◌++◌, ◌<◌, ◌^◌, ℕ, List, ap, ap₂, sym, subst, map}
use Rattle.std.specs.List.{All, enumerate_from}
use Rattle.col_set.specs.ColSet.{Columns}
use Rattle.rel_base.specs.declared.dependency.Table.{Table}
use Rattle.rel_base.specs.RowState.{IsRowState, RowState, width}
use Rattle.report_text.specs.Tables.{tables_text}
use Rattle.table_files.specs.Files.{table_file}
use Rattle.table_files.specs.Keys.{alternates}
use Rattle.normalize_text.specs.Normalize.{tables}
use Rattle.normalize_text.proofs.Tables.{normalized-files, normalized-text, tables_below}
use Rattle.task_base.proofs.Facts.{IfOk-map, OnOk-always}
use Rattle.normalize_text.proofs.normalizing.push_normalized.Goals as goal

pub files_of-requires-clause-columns : goal.files_of-requires-clause-columns
files_of-requires-clause-columns g c lifetimes lives =
    let r : RowState = c.args.book.now.rows in
    let state : IsRowState r = c.rows.ensures.sound.rows in
    let are = c.deref-4.ensures.value ∙ c.in_ok-tables.ensures ∙ ap tables c.rows.ensures.rows in
    subst (λ (ts : List Table). All (λ t. t.columns < 2 ^ width c.rows-2.result.now) ts) (sym are)
    (subst (λ (s : RowState). All (λ t. t.columns < 2 ^ width s) (tables r)) (sym c.rows-2.ensures.rows) (tables_below r state))

pub returns-clause-text : goal.returns-clause-text
returns-clause-text g c =
    let r : RowState = c.args.book.now.rows in
    let ts : List Table = c.in_ok-tables.tables.items in
    let others : List (ℕ × Columns) = c.in_ok-alternates.alternates.items in
    OnOk-always c.files_of.result
    (normalized-text c.args.prefix.now c.args.file.now r ts others c.args.lines.now c.push_whole_report.new.lines c.push_tables.new.self
    (c.in_ok-tables.ensures ∙ ap tables c.rows.ensures.rows)
    (c.in_ok-alternates.ensures ∙ ap (alternates r) c.deref.ensures.value)
    c.in_ok-found.ensures.text
    (c.in_ok-push_tables.ensures.ok ∙ ap₂ (λ (xs : List Table) (ys : List (ℕ × Columns)). c.push_whole_report.new.lines ++ tables_text xs ys) c.deref-2.ensures.value c.deref-3.ensures.value))

pub returns-clause-files : goal.returns-clause-files
returns-clause-files g c =
    let r : RowState = c.args.book.now.rows in
    IfOk-map c.files_of.result
    (λ files e. normalized-files c.args.prefix.now c.args.file.now r c.in_ok-tables.tables.items files.items (c.in_ok-tables.ensures ∙ ap tables c.rows.ensures.rows)
    (e ∙ ap₂ (λ (s : RowState) (xs : List Table). map (table_file c.args.prefix.now s) (enumerate_from 1 xs)) c.rows-2.ensures.rows c.deref-4.ensures.value)) c.files_of.ensures
