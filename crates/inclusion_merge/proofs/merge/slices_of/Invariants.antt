use Rattle.std.proofs.Common.{◌≡◌, take}
use Rattle.inclusion_merge.specs.Sharing.{lists_of, values_behind}
use Rattle.inclusion_merge.proofs.merge.slices_of.Given as goal

abbrev pub invariant-loop-list : goal.invariant-loop-list
invariant-loop-list l = lists_of l.slices.items ≡ values_behind (take l.list-index l.lists)
