use Rattle.std.proofs.Common.{◌∙◌, ◌%◌, ◌/◌, ap, arith, set}
use Rattle.std.proofs.lemmas.List.{get_or_read}
use Rattle.col_set.specs.ColSet.{Columns, with}
use Rattle.inclusion_merge.specs.WideSet.{has_wide}
use Rattle.inclusion_merge.proofs.Wide.{has_wide-insert}
use Rattle.inclusion_merge.proofs.wide_set.insert_wide.Goals as goal

pub returns : goal.returns
returns c k =
    let parts = c.args.parts.now in
    let column = c.args.column in
    let read = get_or_read parts _ _ (omega arith) c.index-parts-place.is 0 in
    ap (λ (x : Columns). has_wide (set parts (column / 128) x) k) (c.with.ensures ∙ ap (λ (x : Columns). with x (column % 128)) read) ∙ has_wide-insert parts column k c.requires
