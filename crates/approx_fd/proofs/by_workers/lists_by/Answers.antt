use Rattle.std.proofs.Common.{◌≡◌, ◌∙◌, ap, IfOk}
use Rattle.rayon.proofs.ToStd.{slice-AllZip}
use Rattle.approx_fd.specs.Approximate.{approx_to_in}
use Rattle.approx_fd.proofs.Joining.{lists_made}
use Rattle.approx_fd.proofs.by_workers.lists_by.Goals as goal

pub returns : goal.returns
returns g c =
    let f = approx_to_in c.args.errors c.args.snapshot.now in
    let made = c.in_ok-lists.ensures in
    let slice = ap (λ it. it.base.slice.now) c.map.ensures.base ∙ ap (λ it. it.slice.now) c.with_min_len.ensures.base ∙ c.par_iter.ensures in
    let chain = rw (c.map.ensures.f) at made.1 in
    let zip = slice-AllZip chain.0 c.args.columns.now (chain.1 ∙ slice) (λ column r. IfOk r (λ list. list.items ≡ f column)) made.0 chain.2 in
    lists_made f c.args.columns.now made.0 c.in_ok-lists.lists zip made.2
