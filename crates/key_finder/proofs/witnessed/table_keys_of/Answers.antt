use Rattle.std.proofs.Common.{◌≡◌, ◌∙◌, ℕ, List, ap}
use Rattle.col_set.specs.declared.target.Target.TheVariants.{RowId}
use Rattle.col_set.specs.Evidence.{least}
use Rattle.key_finder.proofs.Completed.{keys_are}
use Rattle.key_finder.proofs.witnessed.table_keys_of.Goals as goal

pub returns : goal.returns
returns c n few =
    c.in_ok-keys.ensures
    ∙ ap (λ (ws : List ℕ). least c.reach-reach.result ws RowId) (c.as_slice.ensures.value ∙ c.in_ok-completed.ensures)
    ∙ keys_are c.reach-reach.result c.args.columns c.args.agree_sets.now c.reach-reach.ensures.within n few
