use Rattle.std.proofs.Common.{sym}
use Rattle.least_sets.proofs.Exploring.{lists_none}
use Rattle.least_sets.proofs.explore.least_among.Goals as goal

pub returns-then-is_refuted : goal.returns-then-is_refuted
returns-then-is_refuted g c = lists_none c.args.choices c.args.agree_sets.now c.args.target c.new.result.items c.new.ensures.items (sym c.if-is_refuted.ensures)
