use Rattle.std.proofs.Common.{◌∙◌, sym}
use Rattle.fd_closure.proofs.Filing.{have_first, have_more}
use Rattle.fd_closure.proofs.blocks.end_of.Goals as goal

pub loop-end-init : goal.loop-end-init
loop-end-init c = have_first c.args.sides.now c.args.common c.args.start c.requires.common

pub loop-end-preserved : goal.loop-end-preserved
loop-end-preserved c = have_more c.args.sides.now c.args.common c.args.start c.loop-end.end c.index-sides-end.result c.loop-end.invariant (sym c.subset_of.ensures ∙ c.if-not-subset_of.false)
