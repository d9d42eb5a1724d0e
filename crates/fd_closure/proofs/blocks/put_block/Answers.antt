use Rattle.std.proofs.Common.{ℕ, List, sym, subst}
use Rattle.set_tree.proofs.Paths.{on_done}
use Rattle.fd_closure.specs.declared.block.Block.{Block}
use Rattle.fd_closure.specs.Blocks.{AreFiled}
use Rattle.fd_closure.proofs.Filing.{filed_more}
use Rattle.fd_closure.proofs.blocks.put_block.Goals as goal

pub returns : goal.returns
returns c = on_done c.insert.result (λ i sides filed have. subst (λ (ps : List (ℕ × Block)). AreFiled sides ps c.args.end) (sym i)
    (filed_more sides c.args.blocks.now c.args.common c.args.start c.args.end c.least_start-start.result c.get.result c.get.ensures.order c.get.ensures.value c.least_start-start.ensures.own c.least_start-start.ensures.known filed have)) c.insert.ensures.pairs
