use Rattle.approx_fd_tests.proofs.Agreeing.{Agreed}
use Rattle.approx_fd_tests.proofs.plain.agree.Given as goal

abbrev pub invariant-loop-column : goal.invariant-loop-column
invariant-loop-column l = Agreed l.snapshot l.i l.j l.column l.columns
