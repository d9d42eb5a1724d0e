use Rattle.std.proofs.Common.{◌≡◌, ◌∙◌, ap, IfOk}
use Rattle.rayon.proofs.ToStd.{slice-AllZip}
use Rattle.ports.specs.Lists.{File}
use Rattle.task_base.proofs.Facts.{IfOk-map}
use Rattle.table_files.specs.declared.sheets.Sheet.{Sheet}
use Rattle.table_files.specs.Files.{table_file}
use Rattle.table_files.specs.Sheets.{table_behind}
use Rattle.table_files.proofs.Made.{each_made, map_of}
use Rattle.table_files.proofs.files.files_by.Goals as goal

pub returns : goal.returns
returns g c =
    let f : Sheet → File = λ sheet. table_file c.args.prefix.now c.args.rows.now (table_behind sheet) in
    let made = c.in_ok-made.ensures in
    let slice = ap (λ it. it.base.slice.now) c.map.ensures.base ∙ ap (λ it. it.slice.now) c.with_min_len.ensures.base ∙ c.par_iter.ensures in
    let chain = rw (c.map.ensures.f) at made.1 in
    let zip = slice-AllZip chain.0 c.args.sheets.now (chain.1 ∙ slice) (λ sheet r. IfOk r (λ file. file ≡ f sheet)) made.0 chain.2 in
    IfOk-map c.in_ok-made.made (λ files h. map_of f c.args.sheets.now files.items h) (each_made (λ sheet file. file ≡ f sheet) c.args.sheets.now made.0 c.in_ok-made.made zip made.2)
