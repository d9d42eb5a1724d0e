use Rattle.std.proofs.Common.{length, arith}
use Rattle.cover_cert.proofs.Words.{words-to}
use Rattle.cover_cert.proofs.fields.end_of_word.Goals as goal

pub returns-then-bytes-place-eq32-clause-words : goal.returns-then-bytes-place-eq32-clause-words
returns-then-bytes-place-eq32-clause-words c = words-to c.args.bytes.now c.loop-place.place (let l = c.loop-place-test.true in omega arith) (λ l. c.if-bytes-place-eq32.true) c.loop-place.invariant

pub returns-clause-words : goal.returns-clause-words
returns-clause-words c = let m = c.loop-place-test.false in
    words-to c.args.bytes.now (length c.args.bytes.now) (omega arith) (λ l. absurd (omega arith)) (λ k l. c.loop-place.invariant k (omega arith))
