use Rattle.rel_base.proofs.Changes.{after-follows}
use Rattle.rel_base.proofs.laws.batches_keep_numbers.Goals as goal

pub returns : goal.returns
returns c = after-follows
