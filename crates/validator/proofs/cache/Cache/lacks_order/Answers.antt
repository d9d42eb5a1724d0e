use Rattle.std.proofs.Common.{◌<◌, ℕ, sym, subst}
use Rattle.col_set.proofs.EachColumn.{first-Some}
use Rattle.validator.proofs.cache.Cache.lacks_order.Goals as goal

pub loop-column-smaller : goal.loop-column-smaller
loop-column-smaller c = subst (λ (n : ℕ). n < c.loop-column.left) (sym c.without-left.ensures) (first-Some c.loop-column.left c.in-Some.column c.in-Some.ensures.value).smaller
