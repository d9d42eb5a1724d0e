use Rattle.std.proofs.Common.{◌≡◌, ◌∙◌, ℕ, List, [], ◌∷◌, ◌++◌}
use Rattle.col_set.specs.Evidence.{least}
use Rattle.plain_base.proofs.Steps.{specialised, of_keys}
use Rattle.plain_base.proofs.evidence.specialise.Goals as goal

pub returns : goal.returns
returns c = of_keys (λ items. (ws : List ℕ) → c.args.candidates.now ≡ least c.args.columns ws c.args.target → items ≡ least c.args.columns (ws ++ c.args.z ∷ []) c.args.target) c.in_ok-kept.kept.keys c.in_order.result c.in_order.ensures
    (specialised c.args.columns c.args.target c.args.z c.args.candidates.now c.as_slice.result.now c.in_ok-kept.kept.keys c.requires.apart (c.as_slice.ensures.value ∙ c.in_ok-sets.ensures) c.in_ok-kept.ensures)
