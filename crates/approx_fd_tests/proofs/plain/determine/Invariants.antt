use Rattle.std.proofs.Common.{◌≡◌, ◌<◌, length}
use Rattle.std.specs.List.{All}
use Rattle.rel_base.specs.Shows.{code_sets}
use Rattle.rel_base.specs.Validity.{determined}
use Rattle.approx_fd_tests.proofs.plain.determine.Given as goal

abbrev pub invariant-loop-row : goal.invariant-loop-row
invariant-loop-row l = record {
  told : determined (code_sets l.snapshot l.rest) l.columns l.target ≡ determined (code_sets l.snapshot l.rows) l.columns l.target;
  given : All (λ row. row < l.snapshot.to) l.rest;
}

abbrev pub decreases-loop-row : goal.decreases-loop-row
decreases-loop-row l = length l.rest
