use Rattle.least_sets.proofs.Filed.{filing_opening}
use Rattle.least_sets.proofs.filing.Filing.empty.Goals as goal

pub invariant_of-result : goal.invariant_of-result
invariant_of-result c = filing_opening c.args.columns c.in_ok-having.having.items c.in_ok-lacking.lacking.items c.new.result.items c.new-2.result.items c.requires c.in_ok-having.ensures c.in_ok-lacking.ensures c.new.ensures.items c.new-2.ensures.items
