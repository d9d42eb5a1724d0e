use Rattle.row_log.proofs.Marks.{AreHadBelow}
use Rattle.row_log.proofs.live.MarkedCells.lacking.Given as goal

abbrev pub invariant-loop-code : goal.invariant-loop-code
invariant-loop-code l = AreHadBelow l.self l.others l.code
