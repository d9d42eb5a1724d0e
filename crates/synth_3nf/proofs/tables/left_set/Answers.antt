use Rattle.std.proofs.Common.{◌∙◌, ap, List}
use Rattle.std.proofs.lemmas.List.{take_all}
use Rattle.rel_base.specs.declared.dependency.Fd.{Fd}
use Rattle.synth_3nf.proofs.Tabling.{is_left, is_left-more, lefts-are}
use Rattle.synth_3nf.proofs.tables.left_set.Goals as goal

pub loop-fd-preserved : goal.loop-fd-preserved
loop-fd-preserved c = (
  c.in_ok-insert.ensures.ordered,
  λ q. is_left-more c.args.kept.now c.loop-fd.fd-index c.fd-item.result q _ _ c.loop-fd-test.true c.fd-item.is (c.loop-fd.invariant.1 q) (c.in_ok-insert.ensures.updates.0 q),
)

pub returns : goal.returns
returns c n within =
    lefts-are c.loop-fd.lefts c.args.kept.now n c.loop-fd.invariant.0
    (λ q. c.loop-fd.invariant.1 q ∙ ap (λ (fds : List Fd). is_left fds q) (take_all c.loop-fd.fd-index c.args.kept.now c.loop-fd-test.false)) within
