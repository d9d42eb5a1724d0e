use Rattle.cover_cert.proofs.Words.{NoSpace}
use Rattle.cover_cert.proofs.fields.end_of_word.Given as goal

abbrev pub invariant-loop-place : goal.invariant-loop-place
invariant-loop-place l = NoSpace l.bytes l.place
