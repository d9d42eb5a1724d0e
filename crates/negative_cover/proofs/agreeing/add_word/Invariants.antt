use Rattle.std.proofs.Common.{◌≡◌, ◌<◌, ◌≤◌, ◌+◌, ◌*◌, ◌^◌, ℕ, get_or}
use Rattle.negative_cover.proofs.agreeing.add_word.Given as goal

abbrev pub invariant-loop-k : goal.invariant-loop-k
invariant-loop-k l = record {
  written : (i : ℕ) → i < l.k → get_or l.sets i 0 ≡ get_or l.initial.sets i 0 + 2 ^ l.fn.from * get_or l.word i 0;
  kept : (i : ℕ) → l.k ≤ i → get_or l.sets i 0 ≡ get_or l.initial.sets i 0;
}
