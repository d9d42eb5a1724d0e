use Rattle.std.proofs.Common.{arith}
use Rattle.col_set.proofs.Places.{Listed-get_or}
use Rattle.inclusion_merge.proofs.open.settled_or_kept.Goals as goal

pub is_kept-requires-clause-settled : goal.is_kept-requires-clause-settled
is_kept-requires-clause-settled c = (c.requires.settled _ (Listed-get_or c.args.pairs.now c.loop-pair.pair-index (0, 0) (omega arith))).0

pub is_kept-requires-clause-dependent : goal.is_kept-requires-clause-dependent
is_kept-requires-clause-dependent c = (c.requires.kept _ (Listed-get_or c.args.pairs.now c.loop-pair.pair-index (0, 0) (omega arith))).0

pub is_kept-requires-clause-referenced : goal.is_kept-requires-clause-referenced
is_kept-requires-clause-referenced c = (c.requires.kept _ (Listed-get_or c.args.pairs.now c.loop-pair.pair-index (0, 0) (omega arith))).1
