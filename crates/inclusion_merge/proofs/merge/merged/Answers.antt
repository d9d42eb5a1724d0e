use Rattle.std.proofs.Common.{◌∙◌, ap, subst, List}
use Rattle.rel_base.specs.Cells.{Cell}
use Rattle.inclusion_merge.specs.Candidates.{may}
use Rattle.inclusion_merge.specs.Sharing.{TellsParts, lists_of}
use Rattle.inclusion_merge.proofs.merge.merged.Goals as goal

pub returns-clause-tells : goal.returns-clause-tells
returns-clause-tells c = subst (λ (lists : List (List Cell)). TellsParts lists (may c.pass.new.kept)) (ap lists_of c.deref_mut.ensures.value ∙ c.in_ok-rests.ensures) c.pass.ensures.tells
