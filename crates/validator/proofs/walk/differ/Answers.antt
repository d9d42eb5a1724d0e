use Rattle.std.proofs.Common.{◌<◌, ◌-◌, ℕ, List, length, get_or, not, eqb, sym, ap, ap₂, ◌∙◌, subst}
use Rattle.col_set.specs.declared.target.Target.{Target}
use Rattle.col_set.specs.Target.{has_target, IsColumnTarget}
use Rattle.rel_base.specs.Shows.{code_agree}
use Rattle.validator.proofs.Targets.{target-column, target-row}
use Rattle.validator.proofs.walk.differ.Goals as goal

pub returns-in-Col-clause-value : goal.returns-in-Col-clause-value
returns-in-Col-clause-value g c s wide told =
    let l : c.in-Col.field-0 < length s.codes = subst (IsColumnTarget (length s.codes)) c.in-Col.is wide in
    let d = told c.in-Col.field-0 c.in-Col.is in
    ap₂ (λ (m n : ℕ). not (eqb m n)) (c.code.ensures ∙ ap (λ (xs : List ℕ). get_or xs (c.args.i - 1) 0) d) (c.code-in-Col.ensures ∙ ap (λ (xs : List ℕ). get_or xs (c.args.j - 1) 0) d)
    ∙ ap not (sym (target-column s c.args.i c.args.j c.in-Col.field-0 l) ∙ sym (ap (has_target (code_agree s c.args.i c.args.j)) c.in-Col.is))

pub returns-in-RowId-clause-value : goal.returns-in-RowId-clause-value
returns-in-RowId-clause-value g c s wide told = sym (ap (λ (t : Target). not (has_target (code_agree s c.args.i c.args.j) t)) c.in-RowId.is ∙ ap not (target-row s c.args.i c.args.j))
