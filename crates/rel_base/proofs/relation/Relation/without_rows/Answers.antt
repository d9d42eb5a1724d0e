use Rattle.std.proofs.Common.{arith}
use Rattle.rel_base.proofs.Across.{AreColumns-none, across-none}
use Rattle.rel_base.proofs.relation.Relation.without_rows.Goals as goal

pub invariant_of-result : goal.invariant_of-result
invariant_of-result c =
    let n = c.loop-place-test.false in
    let m = c.loop-place.auto._place-end in
    let i = c.loop-place.invariant.0 in
    let e = c.len-place-end.ensures in
    AreColumns-none c.args.names c.loop-place.columns.items c.requires.some c.requires.narrow (omega (arith, n, m, i, e)) (λ j l. c.loop-place.invariant.1 j (omega (arith, l, i)))

pub returns-clause-rows : goal.returns-clause-rows
returns-clause-rows c = across-none c.loop-place.columns.items
