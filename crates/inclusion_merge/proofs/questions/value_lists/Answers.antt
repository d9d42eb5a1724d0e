use Rattle.std.proofs.Common.{◌∙◌, ap, IfOk}
use Rattle.rayon.proofs.ToStd.{slice-AllZip}
use Rattle.inclusion_merge.specs.Asked.{asked_cells}
use Rattle.inclusion_merge.specs.Marks.{is_marked}
use Rattle.inclusion_merge.specs.Values.{IsValuesOf}
use Rattle.inclusion_merge.proofs.Pairing.{values_made}
use Rattle.inclusion_merge.proofs.questions.value_lists.Goals as goal

pub returns : goal.returns
returns g c =
    let made = c.in_ok-lists.ensures in
    let slice = ap (λ it. it.base.slice.now) c.map.ensures.base ∙ ap (λ it. it.slice.now) c.with_min_len.ensures.base ∙ c.par_iter.ensures in
    let chain = rw (c.map.ensures.f) at made.1 in
    let zip =
    slice-AllZip chain.0 c.args.asked.now (chain.1 ∙ slice) (λ column r. IfOk r (λ list. IsValuesOf (is_marked c.args.values.now) (asked_cells column) list.items)) made.0 chain.2 in
    values_made (λ column list. IsValuesOf (is_marked c.args.values.now) (asked_cells column) list) c.args.asked.now made.0 c.in_ok-lists.lists zip made.2
