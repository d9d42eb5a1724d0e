use Rattle.std.proofs.Common.{◌≡◌, ◌∙◌, [], ap}
use Rattle.std.specs.Prelude.{slice_get}
use Rattle.column_dict.specs.Coding.{Coding, coded}
use Rattle.rel_base.specs.declared.nulls.Nulls.TheVariants.{Equal}
use Rattle.nary_ind.proofs.numbering.null_alone.Goals as goal

pub returns : goal.returns
returns c =
    let e : c.code_of.new.self ≡ coded (record { nulls = Equal; cells = [] }) [] = c.in_ok-code_of.ensures.cells ∙ ap (λ (d : Coding). coded d []) c.new-numbers.ensures in
    record { first = ap (λ (d : Coding). slice_get d.cells 0) e; nulls = ap (λ (d : Coding). d.nulls) e }
