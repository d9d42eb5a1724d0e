use Rattle.std.proofs.Common.{arith}
use Rattle.col_set.proofs.EachColumn.{first-Some}
use Rattle.cover_steps.proofs.recent.Recent.tells.Goals as goal

pub loop-column-smaller : goal.loop-column-smaller
loop-column-smaller c = let a = (first-Some c.loop-column.rest c.in-Some-first.column c.in-Some-first.ensures.value).smaller in let r = c.without-rest.ensures in omega (arith, a, r)
