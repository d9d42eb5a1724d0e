use Rattle.std.proofs.Common.{◌∙◌, ap, IfOk, Vec}
use Rattle.std.specs.declared.alloc.Global.{Global}
use Rattle.std.specs.List.{All}
use Rattle.rayon.proofs.ToStd.{slice-AllZip}
use Rattle.negative_cover.specs.declared.negative_cover.Witness.{Witness}
use Rattle.sampler.specs.Agreeing.{IsNear}
use Rattle.sampler.proofs.Together.{all_made}
use Rattle.sampler.proofs.sampling.sampled_in_each.Goals as goal

pub returns : goal.returns
returns g c =
    let P : Vec Witness Global → Type 0 = λ own. All (IsNear c.args.rows.now c.args.snapshot.now) own.items in
    let made = c.in_ok-found.ensures in
    let slice = ap (λ it. it.base.slice.now) c.map.ensures.base ∙ ap (λ it. it.slice.now) c.with_min_len.ensures.base ∙ c.par_iter.ensures in
    let chain = rw (c.map.ensures.f) at made.1 in
    let zip = slice-AllZip chain.0 c.args.columns.now (chain.1 ∙ slice) (λ column r. IfOk r P) made.0 chain.2 in
    all_made P c.args.columns.now made.0 c.in_ok-found.found zip made.2
