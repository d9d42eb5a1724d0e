use Rattle.std.proofs.Common.{◌∙◌, refl, sym, ap, subst, get_or}
use Rattle.col_set.specs.ColSet.{report_cmp}
use Rattle.col_set.specs.Lists.{Rises}
use Rattle.candidate_cover.specs.declared.cand.Cand.{Cand}
use Rattle.candidate_cover.specs.declared.cand.Mark.{Mark}
use Rattle.candidate_cover.specs.Cands.{is_listed, holding}
use Rattle.candidate_cover.specs.Marks.{cands}
use Rattle.candidate_cover.specs.Pairs.{pairs_of, IsInOrder}
use Rattle.candidate_cover.proofs.Places.{is_key-stands, is_key-lacks}
use Rattle.candidate_cover.proofs.Flat.{flat_rises, stands_keys, lacks_keys, even-set}
use Rattle.candidate_cover.proofs.Remarked.{is_listed-cands, untouched}
use Rattle.candidate_cover.proofs.Changed.{changed, changed_order, row_stays, row_there}
use Rattle.candidate_cover.proofs.cand_list.CandList.hold.Goals as goal

pub place_about-requires : goal.place_about-requires
place_about-requires c = subst (Rises report_cmp) (sym c.as_slice.ensures.value) (flat_rises c.self.inside.lists.sets.items c.self.inside.lists.uptos.items c.self.inside.lists.helds.items c.self.invariant.0 c.self.invariant.1)

pub invariant_of-self : goal.invariant_of-self
invariant_of-self c =
    let is = row_there c.self.inside.lists.uptos.items c.in-Ok.place in (
      record { uptos = c.self.invariant.0.uptos; helds = (even-set c.self.inside.lists.sets.items c.self.inside.lists.uptos.items c.self.inside.lists.helds.items c.in-Ok.place (get_or c.self.inside.lists.uptos.items c.in-Ok.place 0) c.args.held c.self.invariant.0).helds },
      subst IsInOrder (sym (row_stays c.self.inside.lists.sets.items c.self.inside.lists.uptos.items c.self.inside.lists.helds.items c.self.invariant.0 c.self.invariant.1 c.args.x c.in-Ok.place (get_or c.self.inside.lists.uptos.items c.in-Ok.place 0) (stands_keys c.self.inside.lists.sets.items c.self.inside.lists.uptos.items c.self.inside.lists.helds.items c.self.invariant.0 c.args.x c.as_slice.result.now c.in-Ok.place c.as_slice.ensures.value c.in-Ok.ensures) is c.args.held))
          (changed_order c.self.inside.lists.sets.items c.self.inside.lists.uptos.items c.self.inside.lists.helds.items c.self.invariant.0 c.self.invariant.1 c.in-Ok.place (get_or c.self.inside.lists.uptos.items c.in-Ok.place 0) c.args.held),
    )

pub returns-in-Ok-clause-found : goal.returns-in-Ok-clause-found
returns-in-Ok-clause-found c =
    sym (is_listed-cands (pairs_of c.self.inside.lists.sets.items c.self.inside.lists.uptos.items c.self.inside.lists.helds.items) c.args.x ∙ is_key-stands (pairs_of c.self.inside.lists.sets.items c.self.inside.lists.uptos.items c.self.inside.lists.helds.items) c.args.x c.in-Ok.place (stands_keys c.self.inside.lists.sets.items c.self.inside.lists.uptos.items c.self.inside.lists.helds.items c.self.invariant.0 c.args.x c.as_slice.result.now c.in-Ok.place c.as_slice.ensures.value c.in-Ok.ensures))
    ∙ ap (λ ps. is_listed (cands ps) c.args.x) c.self.view_is

pub returns-in-Err-clause-found : goal.returns-in-Err-clause-found
returns-in-Err-clause-found c =
    sym (is_listed-cands (pairs_of c.self.inside.lists.sets.items c.self.inside.lists.uptos.items c.self.inside.lists.helds.items) c.args.x ∙ is_key-lacks (pairs_of c.self.inside.lists.sets.items c.self.inside.lists.uptos.items c.self.inside.lists.helds.items) c.args.x c.in-Err.field-0 (lacks_keys c.self.inside.lists.sets.items c.self.inside.lists.uptos.items c.self.inside.lists.helds.items c.self.invariant.0 c.args.x c.as_slice.result.now c.in-Err.field-0 c.as_slice.ensures.value c.in-Err.ensures))
    ∙ ap (λ ps. is_listed (cands ps) c.args.x) c.self.view_is

pub returns-in-Ok-clause-list : goal.returns-in-Ok-clause-list
returns-in-Ok-clause-list c =
    let is = row_there c.self.inside.lists.uptos.items c.in-Ok.place in
    let f : Mark → Mark = λ m. record { upto = m.upto; held = c.args.held } in
    ap cands (row_stays c.self.inside.lists.sets.items c.self.inside.lists.uptos.items c.self.inside.lists.helds.items c.self.invariant.0 c.self.invariant.1 c.args.x c.in-Ok.place (get_or c.self.inside.lists.uptos.items c.in-Ok.place 0) (stands_keys c.self.inside.lists.sets.items c.self.inside.lists.uptos.items c.self.inside.lists.helds.items c.self.invariant.0 c.args.x c.as_slice.result.now c.in-Ok.place c.as_slice.ensures.value c.in-Ok.ensures) is c.args.held)
    ∙ changed c.self.inside.lists.sets.items c.self.inside.lists.uptos.items c.self.inside.lists.helds.items c.self.invariant.0 c.self.invariant.1 c.args.x c.in-Ok.place (get_or c.self.inside.lists.uptos.items c.in-Ok.place 0) (stands_keys c.self.inside.lists.sets.items c.self.inside.lists.uptos.items c.self.inside.lists.helds.items c.self.invariant.0 c.args.x c.as_slice.result.now c.in-Ok.place c.as_slice.ensures.value c.in-Ok.ensures) is f (get_or c.self.inside.lists.uptos.items c.in-Ok.place 0) c.args.held refl
    ∙ ap (λ ps. holding (cands ps) c.args.x c.args.held) c.self.view_is

pub returns-in-Err-clause-list : goal.returns-in-Err-clause-list
returns-in-Err-clause-list c =
    let g : Cand → Cand = λ c'. record { left = c.args.x; upto = c'.upto; held = c.args.held } in
    ap cands (sym c.self.view_is) ∙ untouched g (pairs_of c.self.inside.lists.sets.items c.self.inside.lists.uptos.items c.self.inside.lists.helds.items) c.args.x (is_key-lacks (pairs_of c.self.inside.lists.sets.items c.self.inside.lists.uptos.items c.self.inside.lists.helds.items) c.args.x c.in-Err.field-0 (lacks_keys c.self.inside.lists.sets.items c.self.inside.lists.uptos.items c.self.inside.lists.helds.items c.self.invariant.0 c.args.x c.as_slice.result.now c.in-Err.field-0 c.as_slice.ensures.value c.in-Err.ensures))
    ∙ ap (λ ps. holding (cands ps) c.args.x c.args.held) c.self.view_is
