use Rattle.std.proofs.Common.{◌≡◌, ◌<◌, ◌≤◌, ◌^◌, ℕ, arith}
use Rattle.col_set.proofs.EachColumn.{first-Some}
use Rattle.key_finder.proofs.Reaching.{reached_start, reached_next, reached_end}
use Rattle.key_finder.proofs.witnessed.reach.Goals as goal
use Rattle.key_finder.proofs.witnessed.reach.Goals.{then-reach-column, else-reach-column}

pub loop-column-init : goal.loop-column-init
loop-column-init c = reached_start c.args.columns

pub loop-column-preserved : goal.loop-column-preserved
loop-column-preserved c =
    let low = c.in-Some.ensures.bound in
    let few = c.loop-column.invariant.bound in
    elim c.if-reach-column.branch [
      | then-reach-column w ↦
          let e = w.reach-is in
          let l = w.if-reach-column.true in
          reached_next c.args.columns c.loop-column.reach c.loop-column.left c.in-Some.column c.without-left.result c.if-reach-column.reach c.loop-column.invariant c.without-left.ensures (omega (arith, e)) (omega (arith, e, l)) (omega (arith, e, low))
      | else-reach-column w ↦
          let e = w.reach-is in
          let l = w.if-reach-column.false in
          reached_next c.args.columns c.loop-column.reach c.loop-column.left c.in-Some.column c.without-left.result c.if-reach-column.reach c.loop-column.invariant c.without-left.ensures (omega (arith, e, l)) (omega (arith, e)) (omega (arith, e, few))
    ]

pub loop-column-smaller : goal.loop-column-smaller
loop-column-smaller c = let a = (first-Some c.loop-column.left c.in-Some.column c.in-Some.ensures.value).smaller in let r = c.without-left.ensures in omega (arith, a, r)

pub returns-clause-within : goal.returns-clause-within
returns-clause-within c = reached_end c.args.columns c.loop-column.reach c.loop-column.left c.loop-column.invariant c.in_default.ensures.value
