use Rattle.std.proofs.Common.{◌∙◌, ◌++◌, ◌∷◌, [], ℕ, ap, arith}
use Rattle.col_set.specs.ColSet.{has}
use Rattle.col_set.specs.Members.{has-empty}
use Rattle.col_set.proofs.EachColumn.{first-Some, first-None}
use Rattle.least_sets.proofs.Branches.{no_columns, ends_first, ends_more}
use Rattle.least_sets.proofs.branching.push_ends.Goals as goal

pub loop-column-init : goal.loop-column-init
loop-column-init c = ends_first c.args.chosen c.args.free c.args.lacked c.args.found.now.items c.requires

pub loop-column-smaller : goal.loop-column-smaller
loop-column-smaller c = let a = (first-Some c.loop-column.rest c.in-Some.column c.in-Some.ensures.value).smaller in let r = c.without-rest.ensures in omega (arith, a, r)

pub loop-column-preserved : goal.loop-column-preserved
loop-column-preserved c =
    ends_more c.args.chosen c.args.free c.args.lacked c.loop-column.rest c.loop-column.left c.args.found.now.items c.loop-column.found.items c.loop-column.invariant c.in-Some.column
    (first-Some c.loop-column.rest c.in-Some.column c.in-Some.ensures.value).had c.push.new.self.items (c.in_ok-push.ensures.items ∙ ap (λ (v : ℕ). c.loop-column.found.items ++ v ∷ []) c.with.ensures)
    c.without-rest.result c.without-left.result c.without-rest.ensures c.without-left.ensures

pub returns-clause-low : goal.returns-clause-low
returns-clause-low c = c.loop-column.invariant.low

pub returns-clause-ended : goal.returns-clause-ended
returns-clause-ended c = c.loop-column.invariant.ended

pub returns-clause-gone : goal.returns-clause-gone
returns-clause-gone c = λ k h. c.loop-column.invariant.gone k h (ap (λ (v : ℕ). has v k) (no_columns c.loop-column.rest (first-None c.loop-column.rest (c.in_default.ensures.value))) ∙ has-empty k)
