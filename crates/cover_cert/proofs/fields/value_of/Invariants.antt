use Rattle.batch_update.proofs.Digits.{DigitsTo}
use Rattle.cover_cert.proofs.fields.value_of.Given as goal

abbrev pub invariant-loop-byte : goal.invariant-loop-byte
invariant-loop-byte l = DigitsTo l.field l.byte-index l.value
