use Rattle.std.proofs.Common.{◌∙◌, sym, ap, ap₂}
use Rattle.col_set.specs.ColSet.{first, union}
use Rattle.least_sets.proofs.Firsts.{cmp_less, cmp_greater, cmp_equal, differ_at}
use Rattle.least_sets.proofs.order.cmp_first.Goals as goal

pub returns-in-None : goal.returns-in-None
returns-in-None c = cmp_equal c.args.x c.args.y (c.in-None.ensures.value ∙ ap first (c.union.ensures ∙ ap₂ union c.minus.ensures c.minus-2.ensures))

pub returns-then-has : goal.returns-then-has
returns-then-has c = cmp_less c.args.x c.args.y c.in-Some.column
    (differ_at c.args.x c.args.y c.in-Some.column c.in-Some.ensures.bound (c.in-Some.ensures.value ∙ ap first (c.union.ensures ∙ ap₂ union c.minus.ensures c.minus-2.ensures))) (sym c.if-has.ensures)

pub returns-else-has : goal.returns-else-has
returns-else-has c = cmp_greater c.args.x c.args.y c.in-Some.column
    (differ_at c.args.x c.args.y c.in-Some.column c.in-Some.ensures.bound (c.in-Some.ensures.value ∙ ap first (c.union.ensures ∙ ap₂ union c.minus.ensures c.minus-2.ensures))) (sym c.if-has.ensures)
