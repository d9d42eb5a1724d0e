use Rattle.std.proofs.Common.{◌∙◌, ap, IfOk}
use Rattle.rayon.proofs.ToStd.{slice-AllZip}
use Rattle.approx_fd.specs.declared.sweeps.Findings.{Findings}
use Rattle.approx_fd.specs.Sweeps.{AreFindings}
use Rattle.approx_fd.proofs.Joining.{all_made}
use Rattle.approx_fd.proofs.by_workers.judged_by.Goals as goal

pub returns : goal.returns
returns g c =
    let P : Findings → Type 0 = AreFindings c.args.snapshot.now c.args.errors in
    let made = c.in_ok-found.ensures in
    let slice = ap (λ it. it.base.slice.now) c.map.ensures.base ∙ ap (λ it. it.slice.now) c.with_min_len.ensures.base ∙ c.par_iter.ensures in
    let chain = rw (c.map.ensures.f) at made.1 in
    let zip = slice-AllZip chain.0 c.args.threads.now (chain.1 ∙ slice) (λ first r. IfOk r P) made.0 chain.2 in
    all_made P c.args.threads.now made.0 c.in_ok-found.found zip made.2
