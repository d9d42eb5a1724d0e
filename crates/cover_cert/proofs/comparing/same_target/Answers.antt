use Rattle.std.proofs.Common.{◌≡◌, ◌∙◌, ℕ, refl, sym, ap}
use Rattle.col_set.specs.declared.target.Target.{Target}
use Rattle.col_set.specs.declared.target.Target.TheVariants.{Col, RowId}
use Rattle.col_set.specs.Target.{is_target}
use Rattle.cover_cert.specs.Comparing.{same_target}
use Rattle.cover_cert.proofs.comparing.same_target.Goals as goal

column : (a : ℕ) (t : Target) → is_target a t ≡ same_target (Col a) t
unfolding is_target
column a (Col b) = refl
column a RowId = refl

pub returns-in-Col : goal.returns-in-Col
returns-in-Col c = c.is_column.ensures ∙ column c.in-Col.column c.args.other ∙ ap (λ (t : Target). same_target t c.args.other) (sym c.in-Col.is)
