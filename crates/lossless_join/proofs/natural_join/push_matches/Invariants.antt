use Rattle.std.proofs.Common.{◌≡◌, take, map}
use Rattle.indexmap.specs.IndexSet.{insert_all}
use Rattle.rel_base.specs.Projection.{same_row}
use Rattle.lossless_join.specs.Joining.{merged_at}
use Rattle.lossless_join.proofs.natural_join.push_matches.Given as goal

abbrev pub invariant-loop-place : goal.invariant-loop-place
invariant-loop-place l = l.whole.keys ≡ insert_all same_row l.fn.whole.keys (map (merged_at l.width l.table l.row) (take l.place-index l.place-items))
