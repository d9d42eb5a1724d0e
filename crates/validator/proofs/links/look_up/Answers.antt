use Rattle.std.proofs.Common.{length}
use Rattle.col_set.specs.Subsets.{has_within}
use Rattle.validator.proofs.links.look_up.Goals as goal

pub place_of-requires-clause-column : goal.place_of-requires-clause-column
place_of-requires-clause-column g c = has_within c.args.asked.now.left (length c.args.snapshot.now.codes) c.args.column c.requires.asked.left c.requires.column
