use Rattle.std.proofs.Common.{◌∙◌, sym, ap, subst}
use Rattle.col_set.specs.ColSet.{report_cmp}
use Rattle.col_set.specs.Lists.{Rises}
use Rattle.candidate_cover.specs.Pairs.{pairs_of, value_at}
use Rattle.candidate_cover.proofs.Places.{value_at-lacks}
use Rattle.candidate_cover.proofs.Flat.{flat_rises, stands_keys, lacks_keys, flat_value}
use Rattle.candidate_cover.proofs.cand_list.CandList.get_near.Goals as goal

pub place_about-requires : goal.place_about-requires
place_about-requires c = subst (Rises report_cmp) (sym c.as_slice.ensures.value) (flat_rises c.self.inside.lists.sets.items c.self.inside.lists.uptos.items c.self.inside.lists.helds.items c.self.invariant.0 c.self.invariant.1)

pub returns-in-Ok-clause-value : goal.returns-in-Ok-clause-value
returns-in-Ok-clause-value c =
    flat_value c.self.inside.lists.sets.items c.self.inside.lists.uptos.items c.self.inside.lists.helds.items c.self.invariant.0 c.args.x c.in-Ok.place c.index.result.now c.index-in-Ok.result.now
    (stands_keys c.self.inside.lists.sets.items c.self.inside.lists.uptos.items c.self.inside.lists.helds.items c.self.invariant.0 c.args.x c.as_slice.result.now c.in-Ok.place c.as_slice.ensures.value c.in-Ok.ensures)
    c.index.ensures c.index-in-Ok.ensures ∙ ap (λ ps. value_at ps c.args.x) c.self.view_is

pub returns-in-Err-clause-value : goal.returns-in-Err-clause-value
returns-in-Err-clause-value c =
    sym (value_at-lacks (pairs_of c.self.inside.lists.sets.items c.self.inside.lists.uptos.items c.self.inside.lists.helds.items) c.args.x c.in-Err.place
    (lacks_keys c.self.inside.lists.sets.items c.self.inside.lists.uptos.items c.self.inside.lists.helds.items c.self.invariant.0 c.args.x c.as_slice.result.now c.in-Err.place c.as_slice.ensures.value c.in-Err.ensures))
    ∙ ap (λ ps. value_at ps c.args.x) c.self.view_is
