use Rattle.std.proofs.Common.{subst}
use Rattle.cover_cert.specs.declared.line.Shape.{Shape}
use Rattle.cover_cert.specs.Form.{said, Reads}
use Rattle.cover_cert.specs.Certificates.{rows_in}
use Rattle.cover_cert.proofs.Judged.{out-of-form, of-form}
use Rattle.cover_cert.proofs.checking.check_text.Goals as goal

pub returns-in_ok-answer-in-Listed : goal.returns-in_ok-answer-in-Listed
returns-in_ok-answer-in-Listed g c =
    let s = c.args.snapshot.now in
    let reads = subst (Reads c.shape_in.result (said c.args.text.now)) c.in-Listed.is c.in_ok-listing.ensures.reads in
    let is = subst (λ (h : Shape). Reads h (said c.args.text.now) (c.in_ok-listing.field-0)) c.shape_in.ensures c.in_ok-listing.ensures.reads in
    of-form (rows_in s) (said c.args.text.now) c.in_ok-answer-in-Listed.answer reads.form
    (c.in_ok-answer-in-Listed.ensures (said c.args.text.now) (subst (Reads _ (said c.args.text.now)) c.in-Listed.is is))

pub returns-in-OutOfForm : goal.returns-in-OutOfForm
returns-in-OutOfForm g c = out-of-form (rows_in c.args.snapshot.now) (said c.args.text.now) c.in-OutOfForm.record (subst (Reads c.shape_in.result (said c.args.text.now)) c.in-OutOfForm.is c.in_ok-listing.ensures.reads)
