use Rattle.std.proofs.Common.{◌∙◌, ap, IfOk}
use Rattle.rayon.proofs.ToStd.{slice-AllZip}
use Rattle.validator.specs.Weighed.{IsWeighed}
use Rattle.validator.proofs.Made.{weighed_made}
use Rattle.validator.proofs.weighed.weighed_by.Goals as goal

pub returns : goal.returns
returns g c =
    let P = IsWeighed c.args.snapshot.now in
    let made = c.in_ok-made.ensures in
    let slice = ap (λ it. it.base.slice.now) c.map.ensures.base ∙ ap (λ it. it.slice.now) c.with_min_len.ensures.base ∙ c.par_iter.ensures in
    let chain = rw (c.map.ensures.f) at made.1 in
    let zip = slice-AllZip chain.0 c.args.columns.now (chain.1 ∙ slice) (λ column r. IfOk r P) made.0 chain.2 in
    weighed_made P c.args.columns.now made.0 c.in_ok-made.made zip made.2
