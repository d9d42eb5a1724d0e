use Rattle.std.proofs.Common.{◌≡◌, take}
use Rattle.cover_cert.specs.Certificates.{rows_in, agree_sets_of}
use Rattle.cover_cert.proofs.agreeing.agree_sets.Given as goal

abbrev pub invariant-loop-pair : goal.invariant-loop-pair
invariant-loop-pair l = l.sets.items ≡ agree_sets_of (rows_in l.snapshot) (take l.pair-index l.pairs)
