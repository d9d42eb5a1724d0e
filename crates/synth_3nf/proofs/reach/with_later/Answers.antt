use Rattle.std.proofs.Common.{◌∙◌, ap}
use Rattle.col_set.specs.ColSet.{inter}
use Rattle.synth_3nf.proofs.Widening.{with_later-is}
use Rattle.synth_3nf.proofs.reach.with_later.Goals as goal

pub returns : goal.returns
returns c fds t =
    with_later-is fds c.args.right c.args.start c.all.result c.all-2.result c.minus-behind.result c.inter.result c.union.result
    c.all.ensures c.all-2.ensures c.minus-behind.ensures (c.inter.ensures ∙ ap (λ z. inter z c.minus-behind.result) (c.closure.ensures.told fds t)) c.union.ensures
