use Rattle.std.proofs.Common.{◌∙◌, ◌%◌, ap, arith, sym}
use Rattle.std.proofs.lemmas.List.{get_or_read}
use Rattle.col_set.specs.ColSet.{Columns, has}
use Rattle.inclusion_merge.proofs.Wide.{has_wide-at}
use Rattle.inclusion_merge.proofs.wide_set.has_wide.Goals as goal

pub returns : goal.returns
returns c =
    let read = get_or_read c.args.parts.now _ _ (omega arith) c.index-parts-column.is 0 in
    c.has.ensures ∙ ap (λ (x : Columns). has x (c.args.column % 128)) read ∙ sym (has_wide-at c.args.parts.now c.args.column)
