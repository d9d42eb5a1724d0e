use Rattle.std.proofs.Common.{◌≡◌, ◌<◌, ◌≤◌, ◌+◌, ◌-◌, ◌%◌, ℕ, get_or, length}
use Rattle.negative_cover.specs.AgreeBits.{agree_bits}
use Rattle.negative_cover.proofs.agreeing.write_agreement.Given as goal

abbrev pub invariant-loop-from : goal.invariant-loop-from
invariant-loop-from l = record {
  within : l.from ≤ length l.snapshot.codes;
  whole : l.from < length l.snapshot.codes → l.from % 32 ≡ 0;
  written : (k : ℕ) → k < length l.sets → get_or l.sets k 0 ≡ agree_bits l.snapshot (l.fn.first + k) l.fn.other 0 l.from;
}

abbrev pub decreases-loop-from : goal.decreases-loop-from
decreases-loop-from l = length l.snapshot.codes - l.from
