use Rattle.std.proofs.Common.{arith}
use Rattle.row_log.proofs.Distinct.{unmarked-set}
use Rattle.row_log.proofs.column.mark.Goals as goal

pub overflow_sub-result : goal.overflow_sub-result
overflow_sub-result c =
    let f = unmarked-set c.args.used.now c.args.code _ c.requires.known c.if-used-code.false in
    let g = c.requires.left in
    omega (arith, f, g)

pub returns-clause-left : goal.returns-clause-left
returns-clause-left c =
    let f = unmarked-set c.args.used.now c.args.code _ c.requires.known c.if-used-code.false in
    let g = c.requires.left in
    omega (arith, f, g)
