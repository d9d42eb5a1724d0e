use Rattle.std.proofs.Common.{◌≡◌, ◌<◌, ◌≤◌, ◌∙◌, ℕ, length, get_or, sym, ap, subst, rules}
use Rattle.std.proofs.lemmas.List.{take_all}
use Rattle.candidate_cover.specs.Marks.{cands}
use Rattle.candidate_cover.specs.Pairs.{pairs_of}
use Rattle.candidate_cover.proofs.Flat.{same_flat, listed_more, length-flat_cands}
use Rattle.candidate_cover.proofs.cand_list.CandList.list.Goals as goal

pub loop-place-preserved : goal.loop-place-preserved
loop-place-preserved c =
    let shown : pairs_of c.as_slice.result.now c.as_slice-in-loop-place.result.now c.as_slice-in-loop-place-2.result.now ≡ c.args.self.now
    = same_flat c.self.inside.lists.sets.items c.self.inside.lists.uptos.items c.as_slice.result.now c.as_slice-in-loop-place.result.now c.self.inside.lists.helds.items c.as_slice-in-loop-place-2.result.now c.as_slice.ensures.value c.as_slice-in-loop-place.ensures.value c.as_slice-in-loop-place-2.ensures.value ∙ c.self.view_is in
    let many : length (cands c.args.self.now) ≡ length c.self.inside.lists.sets.items = ap (λ ps. length (cands ps)) (sym c.self.view_is) ∙ length-flat_cands c.self.inside.lists.sets.items c.self.inside.lists.uptos.items c.self.inside.lists.helds.items c.self.invariant.0 in
    let l : c.loop-place.place < length c.self.inside.lists.sets.items = search rules in
    c.in_ok-push.ensures.items
    ∙ listed_more (cands c.args.self.now) c.loop-place.list.items c.loop-place.place c.cand_at.result (subst (λ (n : ℕ). c.loop-place.place < n) (sym many) l)
    (λ d. subst (λ ps. get_or (cands ps) c.loop-place.place d ≡ c.cand_at.result) shown (c.cand_at.ensures d)) c.loop-place.invariant

pub returns-clause-list : goal.returns-clause-list
returns-clause-list c =
    let many : length (cands c.args.self.now) ≡ length c.self.inside.lists.sets.items = ap (λ ps. length (cands ps)) (sym c.self.view_is) ∙ length-flat_cands c.self.inside.lists.sets.items c.self.inside.lists.uptos.items c.self.inside.lists.helds.items c.self.invariant.0 in
    let l : length c.self.inside.lists.sets.items ≤ c.loop-place.place = search rules in
    c.loop-place.invariant ∙ take_all c.loop-place.place (cands c.args.self.now) (subst (λ (n : ℕ). n ≤ c.loop-place.place) (sym many) l)
