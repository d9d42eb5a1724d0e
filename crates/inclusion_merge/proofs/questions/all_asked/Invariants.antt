use Rattle.std.proofs.Common.{◌≡◌, take}
use Rattle.inclusion_merge.specs.Asked.{cells_asked}
use Rattle.inclusion_merge.proofs.questions.all_asked.Given as goal

abbrev pub invariant-loop-column : goal.invariant-loop-column
invariant-loop-column l = cells_asked l.asked.items ≡ take l.column-index l.columns
