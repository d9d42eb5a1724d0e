use Rattle.std.proofs.Common.{◌∙◌, sym, ap, arith}
use Rattle.fd_closure.specs.Blocks.{with_side}
use Rattle.fd_closure.proofs.Filing.{sides_none, sides_more}
use Rattle.fd_closure.proofs.blocks.with_block.Goals as goal

pub loop-k-init : goal.loop-k-init
loop-k-init c = record {
  bound = omega arith;
  reached = sides_none c.args.sides.now c.args.x c.args.block.start _ c.args.reached (omega arith);
}

pub loop-k-preserved : goal.loop-k-preserved
loop-k-preserved c =
    let l = c.loop-k-test.true in
    record {
      bound = omega (arith, l);
      reached = c.with_side-reached.ensures ∙ ap (with_side c.args.sides.now c.args.x c.loop-k.k) c.loop-k.invariant.reached ∙ sym (sides_more c.args.sides.now c.args.x c.args.block.start c.loop-k.k c.args.reached c.loop-k.auto.k);
    }
