use Rattle.rel_base.proofs.Valid.{holds-more}
use Rattle.rel_base.proofs.laws.more_columns_keep_a_dependency.Goals as goal

pub returns : goal.returns
returns c = holds-more
