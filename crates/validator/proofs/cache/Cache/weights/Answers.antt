use Rattle.std.proofs.Common.{◌<◌, ◌^◌, ℕ, length, sym, ap, ◌∙◌, subst}
use Rattle.col_set.specs.ColSet.{all, has}
use Rattle.validator.proofs.Weights.{all_below, has_each}
use Rattle.validator.proofs.cache.Cache.weights.Goals as goal

pub weigh-requires-clause-columns : goal.weigh-requires-clause-columns
weigh-requires-clause-columns c =
    subst (λ (x : ℕ). x < 2 ^ length c.args.snapshot.now.codes) (sym (c.all.ensures ∙ ap all c.columns.ensures.value)) (all_below (length c.args.snapshot.now.codes))

pub returns-clause-known : goal.returns-clause-known
returns-clause-known c column l =
    c.in_ok-weigh.ensures.known column (ap (λ (x : ℕ). has x column) (c.all.ensures ∙ ap all c.columns.ensures.value) ∙ has_each (length c.args.snapshot.now.codes) column l)
