use Rattle.std.proofs.Common.{◌∙◌, sym}
use Rattle.col_set.specs.Subsets.{subset-true}
use Rattle.bcnf_split.proofs.search.lies_inside.Goals as goal

pub returns-then-has-clause-only : goal.returns-then-has-clause-only
returns-then-has-clause-only c t = subset-true (sym c.subset_of.ensures ∙ t)
