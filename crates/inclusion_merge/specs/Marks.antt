-- Sets of values by their marks.
use Rattle.std.specs.Prelude.{Bool}
use Rattle.rel_base.specs.Cells.{Cell}
use Rattle.inclusion_merge.specs.Mark.{mark_of}
use Rattle.inclusion_merge.specs.WideSet.{has_wide}
use Rattle.inclusion_merge.specs.declared.marks.Marks.{Marks}

-- whether a set of values has one
abbrev pub is_marked : Marks → Cell → Bool
is_marked marks a = has_wide marks.parts.items (mark_of a)
