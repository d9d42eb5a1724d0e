use Rattle.std.proofs.Common.{◌∙◌}
use Rattle.cover_cert.specs.Form.{said}
use Rattle.cover_cert.specs.Certificates.{rows_in}
use Rattle.cover_cert.proofs.Judged.{answer-shown}
use Rattle.cover_cert.proofs.checking.check.Goals as goal

pub returns-clause-rows : goal.returns-clause-rows
returns-clause-rows g c r is shows = c.in_ok-answer.ensures ∙ c.up_to_giant-text.ensures (rows_in c.args.snapshot.now) ∙ answer-shown c.args.snapshot.now r is shows (said c.args.bytes.now)
