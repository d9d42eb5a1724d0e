use Rattle.std.proofs.Common.{◌≡◌, ◌<◌, ℕ, eqb, length, get_or, take, count_by}
use Rattle.stripped_partition.proofs.groups.count.Given as goal

abbrev pub invariant-loop-code : goal.invariant-loop-code
invariant-loop-code l = (c : ℕ) → c < length l.slots → get_or l.slots c 0 ≡ count_by (λ d. eqb d c) (take l.code-index l.codes)
