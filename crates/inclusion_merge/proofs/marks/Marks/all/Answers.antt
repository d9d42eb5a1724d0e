use Rattle.std.proofs.Common.{◌∙◌, List, ap, replicate}
use Rattle.col_set.specs.ColSet.{Columns}
use Rattle.inclusion_merge.specs.Mark.{mark_of}
use Rattle.inclusion_merge.specs.WideSet.{has_wide}
use Rattle.inclusion_merge.proofs.Marking.{mark_of-below}
use Rattle.inclusion_merge.proofs.Wide.{has_wide-full}
use Rattle.inclusion_merge.proofs.marks.Marks.all.Goals as goal

pub returns : goal.returns
returns c a =
    ap (λ (parts : List Columns). has_wide parts (mark_of a)) (c.in_ok-parts_of.ensures ∙ ap (λ (part : Columns). replicate 2048 part) c.all.ensures) ∙ has_wide-full 2048 (mark_of a) (mark_of-below a)
