use Rattle.std.proofs.Common.{◌∙◌}
use Rattle.nary_ind.proofs.Numbers.{more-more, numbers-step}
use Rattle.nary_ind.proofs.numbering.numbers_of.Goals as goal

pub loop-number-preserved : goal.loop-number-preserved
loop-number-preserved c = record {
  more = more-more c.args.numbers.now c.loop-number.numbers c.number_of.new.numbers c.loop-number.invariant.more c.in_ok-number_of.ensures.more;
  found = numbers-step c.args.rows.now c.args.column c.args.live.now c.loop-number.number-index c.number-item.result c.loop-number.numbers c.number_of.new.numbers c.loop-number.found.items c.push.new.self.items c.in_ok-number_of.field-0
      c.bytes.result.now c.loop-number-test.true c.number-item.is c.in_ok-number_of.ensures.more c.loop-number.invariant.found c.in_ok-number_of.ensures.number (c.bytes.ensures ∙ c.cell-cell.ensures) c.in_ok-push.ensures.items;
}
