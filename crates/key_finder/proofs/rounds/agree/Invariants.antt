use Rattle.key_finder.proofs.Agreeing.{Agreed}
use Rattle.key_finder.proofs.rounds.agree.Given as goal

abbrev pub invariant-loop-column : goal.invariant-loop-column
invariant-loop-column l = Agreed l.snapshot l.i l.j l.column l.columns
