use Rattle.std.proofs.Common.{◌≡◌, ◌<◌, ℕ, eqb, length, get_or, drop, count_by}
use Rattle.stripped_partition.proofs.groups.clear.Given as goal

abbrev pub invariant-loop-code : goal.invariant-loop-code
invariant-loop-code l = (c : ℕ) → c < length l.slots → count_by (λ d. eqb d c) (drop l.code-index l.codes) ≡ 0 → get_or l.slots c 0 ≡ 0
