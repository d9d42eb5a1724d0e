use Rattle.std.proofs.Common.{◌≡◌, take, flat_map}
use Rattle.rel_base.specs.Projection.{distinct}
use Rattle.lossless_join.specs.Joining.{matches}
use Rattle.lossless_join.proofs.natural_join.joined_with.Given as goal

abbrev pub invariant-loop-row : goal.invariant-loop-row
invariant-loop-row l = l.whole.keys ≡ distinct (flat_map (matches l.width l.common l.table) (take l.row-index l.rows))
