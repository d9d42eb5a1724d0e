use Rattle.std.proofs.Common.{ℕ, get_or, ap, ◌∙◌}
use Rattle.validator.proofs.KeptLists.{empty_within}
use Rattle.validator.proofs.cache.Cache.base.Goals as goal

pub returns-clause-within : goal.returns-clause-within
returns-clause-within c d =
    empty_within (get_or c.push_all.new.kept.items c.len-k.result d).columns c.args.columns (ap (λ (k : ℕ). (get_or c.push_all.new.kept.items k d).columns) c.len-k.ensures ∙ c.in_ok-push_all.ensures.columns d)
