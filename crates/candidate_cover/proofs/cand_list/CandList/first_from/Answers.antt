use Rattle.std.proofs.Common.{◌≡◌, ◌∙◌, ℕ, drop, sym, ap, subst}
use Rattle.std.specs.List.{find}
use Rattle.col_set.specs.ColSet.{report_cmp}
use Rattle.col_set.specs.Lists.{Rises}
use Rattle.candidate_cover.specs.Cands.{from}
use Rattle.candidate_cover.specs.Marks.{cands}
use Rattle.candidate_cover.specs.Pairs.{pairs_of}
use Rattle.candidate_cover.specs.Pairs as pairs
use Rattle.candidate_cover.proofs.Places.{from-stands, from-lacks}
use Rattle.candidate_cover.proofs.Remarked.{from-cands}
use Rattle.candidate_cover.proofs.Flat.{flat_rises, stands_keys, lacks_keys, same_flat, cands-drop}
use Rattle.candidate_cover.proofs.cand_list.CandList.first_from.Goals as goal
use Rattle.candidate_cover.proofs.cand_list.CandList.first_from.Goals.{in-Ok, in-Err}

pub place_about-requires : goal.place_about-requires
place_about-requires g c = subst (Rises report_cmp) (sym c.as_slice.ensures.value) (flat_rises c.self.inside.lists.sets.items c.self.inside.lists.uptos.items c.self.inside.lists.helds.items c.self.invariant.0 c.self.invariant.1)

pub returns-clause-found : goal.returns-clause-found
returns-clause-found g c = λ p f.
    c.first_in.ensures p f
    ∙ ap (find p) (ap (λ ps. drop c.match-place_about.start (cands ps)) (same_flat c.self.inside.lists.sets.items c.self.inside.lists.uptos.items c.as_slice-2.result.now c.as_slice-3.result.now c.self.inside.lists.helds.items c.as_slice-4.result.now c.as_slice-2.ensures.value c.as_slice-3.ensures.value c.as_slice-4.ensures.value)
    ∙ cands-drop c.match-place_about.start (pairs_of c.self.inside.lists.sets.items c.self.inside.lists.uptos.items c.self.inside.lists.helds.items) ∙ ap cands cut ∙ from-cands c.args.left (pairs_of c.self.inside.lists.sets.items c.self.inside.lists.uptos.items c.self.inside.lists.helds.items) ∙ ap (λ ps. from c.args.left (cands ps)) c.self.view_is)
  where
    cut : drop c.match-place_about.start (pairs_of c.self.inside.lists.sets.items c.self.inside.lists.uptos.items c.self.inside.lists.helds.items) ≡ pairs.from c.args.left (pairs_of c.self.inside.lists.sets.items c.self.inside.lists.uptos.items c.self.inside.lists.helds.items)
    cut = elim c.match-place_about.branch [
      | in-Ok w ↦
          ap (λ (i : ℕ). drop i (pairs_of c.self.inside.lists.sets.items c.self.inside.lists.uptos.items c.self.inside.lists.helds.items)) w.start-is
          ∙ sym (from-stands (pairs_of c.self.inside.lists.sets.items c.self.inside.lists.uptos.items c.self.inside.lists.helds.items) c.args.left w.in-Ok.place (stands_keys c.self.inside.lists.sets.items c.self.inside.lists.uptos.items c.self.inside.lists.helds.items c.self.invariant.0 c.args.left c.as_slice.result.now w.in-Ok.place c.as_slice.ensures.value w.in-Ok.ensures))
      | in-Err w ↦
          ap (λ (i : ℕ). drop i (pairs_of c.self.inside.lists.sets.items c.self.inside.lists.uptos.items c.self.inside.lists.helds.items)) w.start-is
          ∙ sym (from-lacks (pairs_of c.self.inside.lists.sets.items c.self.inside.lists.uptos.items c.self.inside.lists.helds.items) c.args.left w.in-Err.place (lacks_keys c.self.inside.lists.sets.items c.self.inside.lists.uptos.items c.self.inside.lists.helds.items c.self.invariant.0 c.args.left c.as_slice.result.now w.in-Err.place c.as_slice.ensures.value w.in-Err.ensures))
    ]
