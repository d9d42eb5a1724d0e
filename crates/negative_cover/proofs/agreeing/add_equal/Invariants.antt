use Rattle.std.proofs.Common.{◌≡◌, ◌<◌, ◌≤◌, ◌+◌, ◌*◌, ◌^◌, ℕ, cond, eqb, get_or}
use Rattle.negative_cover.proofs.agreeing.add_equal.Given as goal

abbrev pub invariant-loop-k : goal.invariant-loop-k
invariant-loop-k g l = record {
  written : (i : ℕ) (d : g.row.C.Denot) → i < l.k → get_or l.word i 0 ≡ get_or l.initial.word i 0 + 2 ^ l.fn.at * cond (eqb (g.C.Code.number (get_or l.codes i d)) l.fn.code) 1 0;
  kept : (i : ℕ) → l.k ≤ i → get_or l.word i 0 ≡ get_or l.initial.word i 0;
}
