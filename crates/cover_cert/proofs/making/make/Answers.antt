use Rattle.std.proofs.Common.{◌≡◌, ◌∙◌, ℕ, List, arith, ap, ap₂, map}
use Rattle.std.proofs.lemmas.Result.{IfOk-weaker}
use Rattle.report_text.specs.Certificate.{certificate_text}
use Rattle.cover_cert.specs.Evidence.{ordered}
use Rattle.cover_cert.proofs.Made.{certifies}
use Rattle.cover_cert.proofs.making.make.Goals as goal

pub returns : goal.returns
returns c =
    let kept = c.in_ok-kept.kept.items in
    let rows = c.ranges.rows in
    let named : c.deref-2.result.now ≡ map ordered kept = c.deref-2.ensures.value ∙ c.in_ok-pairs.ensures ∙ ap (map ordered) c.deref.ensures.value in
    let sized : certificate_text c.from.result c.from-2.result c.deref-2.result.now c.args.found.now ≡ certificate_text c.args.columns c.args.rows (map ordered kept) c.args.found.now =
    ap₂ (λ (n m : ℕ). certificate_text n m c.deref-2.result.now c.args.found.now) c.from.ensures c.from-2.ensures
    ∙ ap (λ (pairs : List (ℕ × ℕ)). certificate_text c.args.columns c.args.rows pairs c.args.found.now) named in
    IfOk-weaker c.certificate.result _ _
    (λ text e r of. certifies c.args.columns c.args.rows c.args.witnesses.now kept c.args.found.now c.requires (omega arith) c.in_ok-kept.ensures.among c.in_ok-kept.ensures.whole r of text.items (e ∙ sized))
    c.certificate.ensures
