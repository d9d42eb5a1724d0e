use Rattle.std.proofs.Common.{length, sym, ◌∙◌}
use Rattle.stripped_partition.proofs.Removing.{counted}
use Rattle.stripped_partition.proofs.groups.largest_part.Goals as goal

pub returns-clause-value : goal.returns-clause-value
returns-clause-value c = c.greatest_slot-most.ensures ∙ counted c.count.new.slots c.args.codes.now (length c.args.slots.now) c.requires.within (sym c.count.auto.slots) c.count.ensures
