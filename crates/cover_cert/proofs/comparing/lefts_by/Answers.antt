use Rattle.std.proofs.Common.{◌≡◌, ◌∙◌, ℕ, List, ap, IfOk}
use Rattle.rayon.proofs.ToStd.{slice-AllZip}
use Rattle.col_set.specs.declared.target.Target.TheVariants.{Col}
use Rattle.col_set.specs.Evidence.{least}
use Rattle.cover_cert.proofs.Lists.{lists_made}
use Rattle.cover_cert.proofs.comparing.lefts_by.Goals as goal

pub returns : goal.returns
returns g c =
    let f : ℕ → List ℕ = λ column. least c.args.columns c.args.agree_sets.now (Col column) in
    let made = c.in_ok-lists.ensures in
    let slice = ap (λ it. it.base.slice.now) c.map.ensures.base ∙ ap (λ it. it.slice.now) c.with_min_len.ensures.base ∙ c.par_iter.ensures in
    let chain = rw (c.map.ensures.f) at made.1 in
    let zip = slice-AllZip chain.0 c.args.some.now (chain.1 ∙ slice) (λ column r. IfOk r (λ list. list.items ≡ f column)) made.0 chain.2 in
    lists_made f c.args.some.now made.0 c.in_ok-lists.lists zip made.2
