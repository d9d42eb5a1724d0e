use Rattle.col_set.proofs.EachColumn.{first-Some}
use Rattle.cover_cert.proofs.holding.rank_of.Goals as goal

pub loop-column-smaller : goal.loop-column-smaller
loop-column-smaller c = rw c.without-rest.ensures (first-Some _ _ c.in-Some.ensures.value).smaller
