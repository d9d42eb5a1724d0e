use Rattle.nary_ind.proofs.Numbers.{numbers-all}
use Rattle.nary_ind.proofs.numbering.numbers_if_used.Goals as goal

pub returns-clause-numbers : goal.returns-clause-numbers
returns-clause-numbers c used = numbers-all c.args.rows.now c.args.column c.args.unary.now c.args.relation c.numbers_of.new.numbers.cells c.args.live.now c.in_ok-found.found.items c.requires.rows c.requires.live c.in_ok-found.ensures.numbers
