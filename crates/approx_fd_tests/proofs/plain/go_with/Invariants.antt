use Rattle.std.proofs.Common.{◌≡◌, ◌<◌, length}
use Rattle.std.specs.List.{All, list_all}
use Rattle.approx_fd_tests.proofs.PlainSteps.{goes}
use Rattle.approx_fd_tests.proofs.plain.go_with.Given as goal

abbrev pub invariant-loop-other : goal.invariant-loop-other
invariant-loop-other l = record {
  told : list_all (goes l.snapshot l.columns l.target l.row) l.rest ≡ list_all (goes l.snapshot l.columns l.target l.row) l.others;
  given : All (λ other. other < l.snapshot.to) l.rest;
}

abbrev pub decreases-loop-other : goal.decreases-loop-other
decreases-loop-other l = length l.rest
