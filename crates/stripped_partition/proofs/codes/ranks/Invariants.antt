use Rattle.std.proofs.Common.{◌≡◌, map, take}
use Rattle.stripped_partition.proofs.Coding.{rank_of}
use Rattle.stripped_partition.proofs.codes.ranks.Given as goal

abbrev pub invariant-loop-code : goal.invariant-loop-code
invariant-loop-code l = l.ranks.items ≡ map (rank_of l.codes) (take l.code-index l.codes)
