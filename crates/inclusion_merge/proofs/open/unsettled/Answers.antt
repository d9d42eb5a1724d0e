use Rattle.std.proofs.Common.{arith}
use Rattle.col_set.proofs.Places.{Listed-get_or}
use Rattle.inclusion_merge.proofs.open.unsettled.Goals as goal

pub bounds-settled-pair : goal.bounds-settled-pair
bounds-settled-pair c = (c.requires _ (Listed-get_or c.args.pairs.now c.loop-pair.pair-index (0, 0) (omega arith))).0
