use Rattle.std.proofs.Common.{◌∙◌, ap, sym, ℕ, List, [], ◌∷◌, ◌++◌, Vec, Global}
use Rattle.col_set.proofs.More.{least-empty}
use Rattle.plain_base.proofs.Steps.{least_kept, least_made}
use Rattle.plain_base.proofs.evidence.least_sets.Goals as goal
use Rattle.plain_base.proofs.evidence.least_sets.Goals.{then-not-has_target+in_ok-candidates, else-not-has_target}

pub loop-z-init : goal.loop-z-init
loop-z-init c = c.in_ok-push.ensures.items ∙ ap (λ (xs : List ℕ). xs ++ c.empty.result ∷ []) c.new-candidates.ensures.items ∙ ap (λ (x : ℕ). x ∷ []) c.empty.ensures ∙ sym (least-empty c.args.columns c.args.target)

pub loop-z-preserved : goal.loop-z-preserved
loop-z-preserved c = elim c.if-not-has_target.branch [
  | then-not-has_target+in_ok-candidates w ↦
      ap (λ (v : Vec ℕ Global). v.items) w.candidates-is
      ∙ least_made c.args.columns c.args.agree_sets.now c.args.target c.loop-z.z-index c.z-item.result c.loop-z-test.true c.z-item.is w.as_slice.result.now _ w.in_ok-candidates.ensures (w.as_slice.ensures.value ∙ c.loop-z.invariant)
  | else-not-has_target w ↦
      ap (λ (v : Vec ℕ Global). v.items) w.candidates-is ∙ c.loop-z.invariant
      ∙ sym (least_kept c.args.columns c.args.agree_sets.now c.args.target c.loop-z.z-index c.z-item.result c.loop-z-test.true c.z-item.is (sym w.if-not-has_target.ensures))
]
