use Rattle.std.proofs.Common.{length}
use Rattle.stripped_partition.proofs.Removing.{codes_within, few_outside, outside_is}
use Rattle.stripped_partition.proofs.tally.outside_in.Goals as goal

pub largest_part-requires-clause-within : goal.largest_part-requires-clause-within
largest_part-requires-clause-within c = codes_within c.args.snapshot.now c.args.column (length c.args.slots.now) c.args.group.now c.write_codes.new.codes c.requires.some c.requires.coded c.write_codes.ensures

pub overflow_sub-result : goal.overflow_sub-result
overflow_sub-result c = few_outside c.args.snapshot.now c.args.column c.args.group.now c.write_codes.new.codes c.largest_part.result c.write_codes.ensures c.largest_part.ensures.value

pub returns-clause-value : goal.returns-clause-value
returns-clause-value c = outside_is c.args.snapshot.now c.args.column c.args.group.now c.write_codes.new.codes c.largest_part.result c.write_codes.ensures c.largest_part.ensures.value
