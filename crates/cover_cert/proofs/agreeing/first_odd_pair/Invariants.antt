use Rattle.std.proofs.Common.{◌≡◌, ◌<◌, ℕ, true, get_or}
use Rattle.cover_cert.specs.declared.line.RowPair.{RowPair}
use Rattle.cover_cert.specs.Certificates.{rows_in, names_rows}
use Rattle.cover_cert.proofs.agreeing.first_odd_pair.Given as goal

abbrev pub invariant-loop-place : goal.invariant-loop-place
invariant-loop-place l = (k : ℕ) (d : RowPair) → k < l.place → names_rows (rows_in l.snapshot) (get_or l.pairs k d) ≡ true
