use Rattle.std.proofs.Common.{rules}
use Rattle.std.proofs.lemmas.Fn.{always_returns_same}
use Rattle.col_set.specs.ColSet.{report_cmp}
use Rattle.candidate_cover.proofs.Places.{place_found}
use Rattle.candidate_cover.proofs.place.place_of.Goals as goal

pub returns : goal.returns
returns c = place_found c.args.sets.now c.args.x c.binary_search_by.result c.requires c.binary_search_by.ensures.bound
    (c.binary_search_by.ensures.position (λ y. report_cmp y c.args.x) (always_returns_same _ _ _ (λ a r f' k. search rules)))
