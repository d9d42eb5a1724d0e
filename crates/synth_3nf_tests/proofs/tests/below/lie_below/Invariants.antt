use Rattle.std.proofs.Common.{take}
use Rattle.std.specs.List.{All}
use Rattle.synth_3nf_tests.proofs.Below.{Below}
use Rattle.synth_3nf_tests.proofs.tests.below.lie_below.Given as goal

abbrev pub invariant-loop-fd : goal.invariant-loop-fd
invariant-loop-fd l = All (Below l.n) (take l.fd-index l.fds)
