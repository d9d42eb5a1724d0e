use Rattle.std.proofs.Common.{◌∙◌, sym}
use Rattle.col_set.specs.declared.target.Target.TheVariants.{Col}
use Rattle.rel_base.proofs.Shown.{holds_in-shown}
use Rattle.stripped_partition.proofs.Dependencies.{errors-held, held-errors}
use Rattle.stripped_partition.proofs.laws.equal_errors_tell_dependencies.Goals as goal

pub returns : goal.returns
returns c s r is shows x a = (
  λ h. errors-held s x a (holds_in-shown s r is shows x (Col a) ∙ h),
  λ e. sym (holds_in-shown s r is shows x (Col a)) ∙ held-errors s x a e,
)
