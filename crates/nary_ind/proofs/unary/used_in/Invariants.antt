use Rattle.std.proofs.Common.{◌≡◌, ℕ, false, length, get_or, take}
use Rattle.nary_ind.specs.Unary.{is_in}
use Rattle.nary_ind.proofs.unary.used_in.Given as goal

abbrev pub invariant-loop-pair : goal.invariant-loop-pair
invariant-loop-pair l = record {
  long : length l.used.items ≡ l.columns;
  used : (c : ℕ) → get_or l.used.items c false ≡ is_in (take l.pair-index l.found) c;
}
