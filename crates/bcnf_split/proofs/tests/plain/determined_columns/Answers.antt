use Rattle.std.proofs.Common.{◌≡◌, ℕ, ◌+◌, ◌∙◌, sym, subst, arith}
use Rattle.bcnf_split.proofs.PlainSplit.{Found, found_none, found_with, found_not, found_all}
use Rattle.bcnf_split.proofs.tests.plain.determined_columns.Goals as goal
use Rattle.bcnf_split.proofs.tests.plain.determined_columns.Goals.{then-holds, else-holds}

pub loop-column-init : goal.loop-column-init
loop-column-init c = found_none c.args.sets.now c.args.x c.empty-found.result c.empty-found.ensures

pub loop-column-preserved : goal.loop-column-preserved
loop-column-preserved c =
    elim c.if-holds.branch [
      | then-holds w ↦ found_with c.args.sets.now c.args.x c.loop-column.column c.loop-column.found c.if-holds.found c.loop-column.invariant (w.found-is ∙ w.with-found.ensures) (sym c.holds.ensures ∙ w.if-holds.true)
      | else-holds w ↦ subst (λ (z : ℕ). Found c.args.sets.now c.args.x (c.loop-column.column + 1) z) (sym w.found-is) (found_not c.args.sets.now c.args.x c.loop-column.column c.loop-column.found c.loop-column.invariant (sym c.holds.ensures ∙ w.if-holds.false))
    ]

pub returns : goal.returns
returns c r e w =
    let a = c.loop-column-test.false in
    let b = c.loop-column.auto.column-end in
    let i : c.args.n ≡ c.loop-column.column = omega arith in
    found_all c.args.sets.now c.args.x c.loop-column.column c.loop-column.found c.loop-column.invariant r e (w ∙ i)
