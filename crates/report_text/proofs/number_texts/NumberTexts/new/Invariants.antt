use Rattle.report_text.proofs.NumberTable.{FilledTo}
use Rattle.report_text.proofs.number_texts.NumberTexts.new.Given as goal

abbrev pub invariant-loop-number : goal.invariant-loop-number
invariant-loop-number l = FilledTo l.texts l.counts l.number
