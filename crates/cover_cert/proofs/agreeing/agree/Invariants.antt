use Rattle.cover_cert.proofs.Agreed.{Agreed}
use Rattle.cover_cert.proofs.agreeing.agree.Given as goal

abbrev pub invariant-loop-column : goal.invariant-loop-column
invariant-loop-column l = Agreed l.snapshot l.i l.j l.column l.columns
