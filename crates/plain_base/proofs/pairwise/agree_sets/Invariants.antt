use Rattle.std.proofs.Common.{◌≡◌, ◌++◌, length, map}
use Rattle.std.specs.List.{All}
use Rattle.rel_base.specs.Agreement.{agree}
use Rattle.rel_base.specs.Validity.{pairs}
use Rattle.plain_base.proofs.pairwise.agree_sets.Given as goal

abbrev pub invariant-loop-row : goal.invariant-loop-row
invariant-loop-row l = record {
  told : l.sets.items ++ map (λ p. agree l.nulls l.columns p.0 p.1) (pairs l.left) ≡ map (λ p. agree l.nulls l.columns p.0 p.1) (pairs l.rows);
  wide : All (λ row. length row ≡ l.columns) l.left;
}

abbrev pub decreases-loop-row : goal.decreases-loop-row
decreases-loop-row l = length l.left
