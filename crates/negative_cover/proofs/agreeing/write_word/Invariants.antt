use Rattle.std.proofs.Common.{◌≡◌, ◌<◌, ◌≤◌, ◌+◌, ◌-◌, ℕ, get_or, length}
use Rattle.negative_cover.specs.AgreeBits.{agree_bits}
use Rattle.negative_cover.proofs.agreeing.write_word.Given as goal

abbrev pub invariant-loop-column : goal.invariant-loop-column
invariant-loop-column l = record {
  order : l.fn.from ≤ l.column;
  written : (k : ℕ) → k < length l.word → get_or l.word k 0 ≡ agree_bits l.snapshot (l.fn.first + k) l.fn.other l.fn.from (l.column - l.fn.from);
}
