use Rattle.std.proofs.Common.{◌∙◌, sym, length}
use Rattle.cover_cert.specs.Certificates.{rows_in}
use Rattle.cover_cert.proofs.Judged.{odd-less, within-wanted}
use Rattle.cover_cert.proofs.checking.judge.Goals as goal

pub agree_sets-requires : goal.agree_sets-requires
agree_sets-requires g c = odd-less (rows_in c.args.snapshot.now) c.as_slice-pairs.result.now (sym c.in_default.is ∙ c.first_odd_pair.ensures)

pub first_failing-requires-clause-within : goal.first_failing-requires-clause-within
first_failing-requires-clause-within g c = λ _ _. within-wanted c.columns-columns.result (length c.args.snapshot.now.codes) c.deref.result.now _ c.as_slice-claims.result.now c.columns-columns.ensures.value (sym c.in_default-2.is ∙ c.in_ok-record.ensures)
