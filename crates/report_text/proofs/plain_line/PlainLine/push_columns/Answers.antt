use Rattle.std.proofs.Common.{arith}
use Rattle.col_set.proofs.EachColumn.{first-Some}
use Rattle.report_text.proofs.PlainColumns.{HasColumns-first, HasColumns-more, HasColumns-none, HasColumns-all}
use Rattle.report_text.proofs.plain_line.PlainLine.push_columns.Goals as goal

pub returns-in_default : goal.returns-in_default
returns-in_default c =
    let done = HasColumns-none c.args.self.now _ c.args.set c.in_default.ensures.value c.push.ensures in
    record { text = done.text; bound = done.bound; below = done.below }

pub loop-column-init : goal.loop-column-init
loop-column-init c = HasColumns-first _ _ _ c.in-Some.first _ c.in-Some.ensures.value c.in-Some.ensures.bound c.without-rest.ensures (rw c.from.ensures at c.push_number.ensures.text) c.push_number.ensures.bound

pub push_number-requires-in-Some-first : goal.push_number-requires-in-Some-first
push_number-requires-in-Some-first c =
    let so_far = c.loop-column.invariant.room c.in-Some-first.column (first-Some _ _ c.in-Some-first.ensures.value).had in
    let below = c.in-Some-first.ensures.bound in
    record { room = omega arith; known = omega (arith, c.from-in-Some-first.ensures) }

pub loop-column-smaller : goal.loop-column-smaller
loop-column-smaller c = rw c.without-rest-in-Some-first.ensures (first-Some _ _ c.in-Some-first.ensures.value).smaller

pub loop-column-preserved : goal.loop-column-preserved
loop-column-preserved c =
    HasColumns-more _ _ _ _ _ c.in-Some-first.column _ c.loop-column.invariant c.in-Some-first.ensures.value c.in-Some-first.ensures.bound c.without-rest-in-Some-first.ensures
    (rw c.from-in-Some-first.ensures at c.push_number-in-Some-first.ensures.text) c.push_number-in-Some-first.ensures.bound

pub returns : goal.returns
returns c =
    let done = HasColumns-all c.args.self.now _ c.args.set c.loop-column.rest c.loop-column.invariant c.in_default-first.ensures.value in
    record { text = done.text; bound = done.bound; below = done.below }
