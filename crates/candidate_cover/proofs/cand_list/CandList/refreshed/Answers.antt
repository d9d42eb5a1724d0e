use Rattle.std.proofs.Common.{◌∙◌, sym, ap, subst, map, replicate}
use Rattle.col_set.specs.ColSet.{report_cmp}
use Rattle.col_set.specs.Lists.{Rises}
use Rattle.candidate_cover.specs.Cands.{fresh}
use Rattle.candidate_cover.specs.Marks.{cands}
use Rattle.candidate_cover.proofs.Flat.{all_fresh, flat_order, fresh_even}
use Rattle.candidate_cover.proofs.Toggling.{Rises-keys}
use Rattle.candidate_cover.proofs.Parts.{lefts-cands}
use Rattle.candidate_cover.proofs.cand_list.CandList.refreshed.Goals as goal

pub of-requires-clause-even : goal.of-requires-clause-even
of-requires-clause-even c =
    fresh_even c.in_ok-sets.sets.items c.in_ok-uptos.uptos.items c.in_ok-helds.helds.items c.len.result c.len-2.result (c.in_ok-uptos.ensures.items_if_clones_equal (λ y e. e) ∙ ap (replicate c.len.result) c.first.ensures) (c.in_ok-helds.ensures.items_if_clones_equal (λ y e. e)) (c.len.ensures ∙ c.in_ok-sets.sets.ok.0) (c.len-2.ensures ∙ c.in_ok-sets.sets.ok.0)

pub of-requires-clause-order : goal.of-requires-clause-order
of-requires-clause-order c =
    flat_order c.in_ok-sets.sets.items c.in_ok-uptos.uptos.items c.in_ok-helds.helds.items (of-requires-clause-even c)
    (subst (Rises report_cmp) (sym c.in_ok-sets.ensures.sets) (Rises-keys c.args.self.now c.in_ok-sets.ensures.order))

pub returns : goal.returns
returns c =
    ap cands c.of.ensures
    ∙ all_fresh c.in_ok-sets.sets.items c.in_ok-uptos.uptos.items c.in_ok-helds.helds.items c.len.result c.len-2.result (c.in_ok-uptos.ensures.items_if_clones_equal (λ y e. e) ∙ ap (replicate c.len.result) c.first.ensures) (c.in_ok-helds.ensures.items_if_clones_equal (λ y e. e)) (c.len.ensures ∙ c.in_ok-sets.sets.ok.0) (c.len-2.ensures ∙ c.in_ok-sets.sets.ok.0)
    ∙ ap (map fresh) (c.in_ok-sets.ensures.sets ∙ sym (lefts-cands c.args.self.now))
