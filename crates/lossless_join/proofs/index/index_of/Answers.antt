use Rattle.lossless_join.proofs.Indexing.{index_start}
use Rattle.lossless_join.proofs.index.index_of.Goals as goal

pub loop-place-init : goal.loop-place-init
loop-place-init c = index_start c.args.table.now c.args.columns c.no_rows-keys.result.keys c.new-groups.result.items c.no_rows-keys.ensures c.new-groups.ensures.items
