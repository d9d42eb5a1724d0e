use Rattle.std.proofs.Common.{◌++◌, ◌∷◌, [], ◌∙◌, ap, sym, append-nil, ℕ, Vec, Global}
use Rattle.plain_base.proofs.Steps.{extensions_zero, extensions_skip, extensions_push}
use Rattle.plain_base.proofs.evidence.push_extensions.Goals as goal
use Rattle.plain_base.proofs.evidence.push_extensions.Goals.{then-is_outside+in_ok-push, else-is_outside}

pub loop-column-init : goal.loop-column-init
loop-column-init c = sym (ap (λ ks. c.args.grown.now.items ++ ks) (extensions_zero _ _ _) ∙ append-nil _)

pub loop-column-preserved : goal.loop-column-preserved
loop-column-preserved c = elim c.if-is_outside.branch [
  | then-is_outside+in_ok-push w ↦
      ap (λ (v : Vec ℕ Global). v.items) w.grown-is ∙ w.in_ok-push.ensures.items ∙ ap (λ (y : ℕ). c.loop-column.grown.items ++ y ∷ []) w.with.ensures
      ∙ extensions_push c.loop-column.column c.args.target c.args.z c.args.x c.args.grown.now.items c.loop-column.grown.items (sym w.if-is_outside.ensures) c.loop-column.invariant
  | else-is_outside w ↦
      ap (λ (v : Vec ℕ Global). v.items) w.grown-is
      ∙ extensions_skip c.loop-column.column c.args.target c.args.z c.args.x c.args.grown.now.items c.loop-column.grown.items (sym w.if-is_outside.ensures) c.loop-column.invariant
]
