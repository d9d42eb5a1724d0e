use Rattle.std.proofs.Common.{◌∙◌, sym}
use Rattle.nary_ind.proofs.Keying.{found-key}
use Rattle.nary_ind.proofs.keys.has.Goals as goal

pub returns : goal.returns
returns c =
    let w = found-key c.args.keys.now c.args.key c.requires c.binary_search.result c.binary_search.ensures.position in
    ((λ e. w.0 (sym c.is_ok.ensures.value ∙ e)), (λ h. c.is_ok.ensures.value ∙ w.1 h))
