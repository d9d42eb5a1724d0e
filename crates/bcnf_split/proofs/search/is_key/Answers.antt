use Rattle.std.proofs.Common.{subst, List, ℕ, rules}
use Rattle.std.specs.List.{Contains}
use Rattle.std.proofs.lemmas.Fn.{always_returns_same}
use Rattle.col_set.specs.ColSet.{report_cmp}
use Rattle.bcnf_split.proofs.Tabling.{key_found}
use Rattle.bcnf_split.proofs.search.is_key.Goals as goal

pub returns : goal.returns
returns c t = subst (λ (keys : List ℕ). Contains keys c.args.x) c.keys.ensures.value
    (key_found c.keys.result.now c.args.x c.binary_search_by.result c.is_ok.result c.binary_search_by.ensures.bound
    (c.binary_search_by.ensures.position (λ (y : ℕ). report_cmp y c.args.x) (always_returns_same _ _ _ (λ a r f' k. search rules))) c.is_ok.ensures.value t)
