use Rattle.std.proofs.Common.{◌≡◌, ◌<◌, ◌≤◌, ◌&&◌, ◌∙◌, ◌++◌, ◌∷◌, [], ℕ, leb, length, get_or, sym, ap, subst, rules}
use Rattle.std.specs.List.{filter}
use Rattle.std.proofs.lemmas.List.{take_all}
use Rattle.col_set.specs.ColSet.{size}
use Rattle.candidate_cover.specs.declared.cand.Cand.{Cand}
use Rattle.candidate_cover.specs.Marks.{cands}
use Rattle.candidate_cover.specs.Pairs.{pairs_of}
use Rattle.candidate_cover.specs.Sizes.{is_between}
use Rattle.candidate_cover.proofs.Flat.{same_flat, passed_more, passed_same, flat_cand, length-flat_cands}
use Rattle.candidate_cover.proofs.cand_list.CandList.of_sizes.Goals as goal
use Rattle.candidate_cover.proofs.cand_list.CandList.of_sizes.Goals.{then-is_between+in_ok-push, else-is_between}

many : (c : goal.Joined-is_between) → length (cands c.args.self.now) ≡ length c.self.inside.lists.sets.items
many c = ap (λ ps. length (cands ps)) (sym c.self.view_is) ∙ length-flat_cands c.self.inside.lists.sets.items c.self.inside.lists.uptos.items c.self.inside.lists.helds.items c.self.invariant.0

pub loop-place-preserved : goal.loop-place-preserved
loop-place-preserved c =
    let l : c.loop-place.place < length c.self.inside.lists.sets.items = search rules in
    let m : c.loop-place.place < length (cands c.args.self.now) = subst (λ (n : ℕ). c.loop-place.place < n) (sym (many c)) l in
    let w = flat_cand c.self.inside.lists.sets.items c.self.inside.lists.uptos.items c.self.inside.lists.helds.items c.loop-place.place c.index.result.now c.self.invariant.0 l c.index.ensures in
    let at = λ (d : Cand). subst (λ ps. get_or (cands ps) c.loop-place.place d ≡ w.0) c.self.view_is (w.1 d) in
    let test : c.is_between.result ≡ is_between c.args.least c.args.most w.0 = c.is_between.ensures ∙ ap (λ (x : ℕ). leb c.args.least (size x) && leb (size x) c.args.most) (sym w.2) in
    elim c.if-is_between.branch [
      | then-is_between+in_ok-push v ↦
          let same : pairs_of v.as_slice.result.now v.as_slice-then-is_between.result.now v.as_slice-then-is_between-2.result.now ≡ c.args.self.now
          = same_flat c.self.inside.lists.sets.items c.self.inside.lists.uptos.items v.as_slice.result.now v.as_slice-then-is_between.result.now c.self.inside.lists.helds.items v.as_slice-then-is_between-2.result.now v.as_slice.ensures.value v.as_slice-then-is_between.ensures.value v.as_slice-then-is_between-2.ensures.value ∙ c.self.view_is in
          let here : v.cand_at.result ≡ w.0 = sym (subst (λ ps. get_or (cands ps) c.loop-place.place w.0 ≡ v.cand_at.result) same (v.cand_at.ensures w.0)) ∙ at w.0 in
          ap (λ vs. vs.items) v.list-is ∙ v.in_ok-push.ensures.items ∙ ap (λ (d : Cand). c.loop-place.list.items ++ d ∷ []) here
          ∙ passed_more (is_between c.args.least c.args.most) (cands c.args.self.now) c.loop-place.list.items c.loop-place.place w.0 m at c.loop-place.invariant (sym test ∙ v.if-is_between.true)
      | else-is_between v ↦
          ap (λ vs. vs.items) v.list-is ∙ passed_same (is_between c.args.least c.args.most) (cands c.args.self.now) c.loop-place.list.items c.loop-place.place w.0 m at c.loop-place.invariant (sym test ∙ v.if-is_between.false)
    ]

pub returns : goal.returns
returns c =
    let many : length (cands c.args.self.now) ≡ length c.self.inside.lists.sets.items = ap (λ ps. length (cands ps)) (sym c.self.view_is) ∙ length-flat_cands c.self.inside.lists.sets.items c.self.inside.lists.uptos.items c.self.inside.lists.helds.items c.self.invariant.0 in
    let l : length c.self.inside.lists.sets.items ≤ c.loop-place.place = search rules in
    c.loop-place.invariant ∙ ap (filter (is_between c.args.least c.args.most)) (take_all c.loop-place.place (cands c.args.self.now) (subst (λ (n : ℕ). n ≤ c.loop-place.place) (sym many) l))
