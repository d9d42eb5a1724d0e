use Rattle.std.proofs.Common.{◌≡◌, ◌<◌, ℕ, length, get_or, Some, true}
use Rattle.col_set.specs.ColSet.{subset}
use Rattle.validator.specs.declared.cache.Kept.{Kept}
use Rattle.validator.proofs.cache.largest.Given as goal

abbrev pub invariant-loop-k : goal.invariant-loop-k
invariant-loop-k l = record {
  place : (n : ℕ) → l.best ≡ Some n → n < length l.kept;
  within : (n : ℕ) (d : Kept) → l.best ≡ Some n → subset (get_or l.kept n d).columns l.columns ≡ true;
}
