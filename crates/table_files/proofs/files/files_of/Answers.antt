use Rattle.std.proofs.Common.{◌∙◌, ◌<◌, ◌^◌, ℕ, List, ap, map, subst, sym}
use Rattle.std.specs.List.{All}
use Rattle.rel_base.specs.declared.dependency.Table.{Table}
use Rattle.rel_base.specs.RowState.{width}
use Rattle.table_files.specs.declared.sheets.Sheet.{Sheet}
use Rattle.table_files.specs.Files.{table_file}
use Rattle.table_files.specs.Sheets.{table_behind}
use Rattle.table_files.proofs.Blocks.{map_told, numbered_all}
use Rattle.table_files.proofs.files.files_of.Goals as goal

pub sheets_of-requires-clause-columns : goal.sheets_of-requires-clause-columns
sheets_of-requires-clause-columns g c lifetimes lives =
    let P : ℕ × Table → Type 0 = λ numbered. numbered.1.columns < 2 ^ width c.args.rows.now in
    let all : All P c.as_slice.result.now = subst (All P) (sym (c.as_slice.ensures.value ∙ c.in_ok-numbered.ensures)) (numbered_all (λ (t : Table). t.columns < 2 ^ width c.args.rows.now) 1 c.args.tables.now c.requires.columns) in
    all

pub returns : goal.returns
returns g c =
    let f = table_file c.args.prefix.now c.args.rows.now in
    c.in_ok-files.ensures
    ∙ ap (λ (sheets : List Sheet). map (λ sheet. f (table_behind sheet)) sheets) c.as_slice-2.ensures.value
    ∙ map_told table_behind f c.in_ok-sheets.sheets.items
    ∙ ap (map f) (c.in_ok-sheets.ensures.tables ∙ c.as_slice.ensures.value ∙ c.in_ok-numbered.ensures)
