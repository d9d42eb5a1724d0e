use Rattle.std.proofs.Common.{◌∙◌, ap, ◌++◌, List}
use Rattle.approx_fd.specs.declared.found.Approx.{Approx}
use Rattle.approx_fd.proofs.Joining.{joined-more, joined-all}
use Rattle.approx_fd.proofs.by_workers.joined.Goals as goal

pub loop-list-preserved : goal.loop-list-preserved
loop-list-preserved c = joined-more c.args.lists.now c.loop-list.list-index c.list-item.result c.loop-list.found.items c.extend_from_slice.new.self.items c.loop-list-test.true c.list-item.is c.loop-list.invariant
    (c.in_ok-extend_from_slice.ensures.items ∙ ap (λ (more : List Approx). c.loop-list.found.items ++ more) c.as_slice.ensures.value)

pub returns : goal.returns
returns c = joined-all c.args.lists.now c.loop-list.list-index c.loop-list.found.items c.loop-list-test.false c.loop-list.invariant
