use Rattle.std.proofs.Common.{◌∙◌, sym, rules}
use Rattle.col_set.proofs.EachColumn.{first-Some}
use Rattle.report_text.proofs.ColumnsText.{columns_text-none, columns_text-first, columns_tail-more, columns_tail-end}
use Rattle.report_text.proofs.field.write_columns.Goals as goal

pub returns-in_default : goal.returns-in_default
returns-in_default c = c.clear.ensures.items ∙ sym (columns_text-none c.args.set c.in_default.ensures.value)

pub loop-column-init : goal.loop-column-init
loop-column-init c = columns_text-first _ c.in-Some.first _ _ c.in-Some.ensures.value c.without-rest.ensures (search rules)

pub loop-column-smaller : goal.loop-column-smaller
loop-column-smaller c = rw c.without-rest-in-Some-first.ensures (first-Some _ _ c.in-Some-first.ensures.value).smaller

pub loop-column-preserved : goal.loop-column-preserved
loop-column-preserved c = columns_tail-more _ _ _ _ c.in-Some-first.column _ c.in-Some-first.ensures.value c.without-rest-in-Some-first.ensures (search rules) c.loop-column.invariant

pub returns : goal.returns
returns c = columns_tail-end _ _ c.loop-column.rest c.in_default-first.ensures.value c.loop-column.invariant
