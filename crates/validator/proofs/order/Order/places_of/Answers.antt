use Rattle.std.proofs.Common.{arith}
use Rattle.col_set.proofs.EachColumn.{first-Some}
use Rattle.validator.proofs.order.Order.places_of.Goals as goal

pub loop-column-smaller : goal.loop-column-smaller
loop-column-smaller c = let a = (first-Some c.loop-column.left c.in-Some.column c.in-Some.ensures.value).smaller in let r = c.without-left.ensures in omega (arith, a, r)
