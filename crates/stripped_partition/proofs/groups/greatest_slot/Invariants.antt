use Rattle.std.proofs.Common.{◌≡◌, get_or, map, take}
use Rattle.stripped_partition.specs.Removed.{greatest}
use Rattle.stripped_partition.proofs.groups.greatest_slot.Given as goal

abbrev pub invariant-loop-code : goal.invariant-loop-code
invariant-loop-code l = l.most ≡ greatest (map (λ c. get_or l.slots c 0) (take l.code-index l.codes))
