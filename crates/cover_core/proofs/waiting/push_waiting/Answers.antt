use Rattle.std.proofs.Common.{◌∙◌, List, sym, ap, subst}
use Rattle.std.specs.List.{All}
use Rattle.std.proofs.lemmas.List.Elements.{All-push}
use Rattle.col_set.specs.Lists.{Listed, Listed-filter_parts}
use Rattle.candidate_cover.specs.Cands.{cands_of}
use Rattle.candidate_cover.specs.Sizes.{is_between}
use Rattle.col_set.proofs.Places.{Listed-get_or}
use Rattle.candidate_cover.specs.declared.cand.Cand.{Cand}
use Rattle.cover_core.specs.Waiting.{IsWaiting}
use Rattle.cover_core.specs.declared.waiting.Waiting.{Waiting}
use Rattle.cover_core.proofs.waiting.push_waiting.Goals as goal
use Rattle.cover_core.proofs.waiting.push_waiting.Goals.{then-lt+in_ok-push, else-lt}

pub loop-place-preserved : goal.loop-place-preserved
loop-place-preserved c = elim c.if-lt.branch [
  | then-lt+in_ok-push w ↦
      subst (λ (ws : List Waiting). All (IsWaiting c.args.candidates.now) ws) (sym (ap (λ v. v.items) w.list-is ∙ w.in_ok-push.ensures.items))
      (All-push (IsWaiting c.args.candidates.now) c.loop-place.list.items (record { places = w.places_of-places.result; target = c.args.target; near = w.saturating_add.result; cand = c.cand-item.result }) c.loop-place.invariant
      (record {
        target = c.requires.target;
        listed = (Listed-filter_parts (is_between c.args.sizes.least c.args.sizes.most) c.cand-item.result (cands_of c.args.candidates.now c.args.target) (subst (λ (cs : List Cand). Listed c.cand-item.result cs) (c.deref-cand-items.ensures.value ∙ c.in_ok-own.ensures)
            (subst (λ (d : Cand). Listed d c.deref-cand-items.result.now) (sym c.cand-item.is) (Listed-get_or c.deref-cand-items.result.now c.loop-place.place c.cand-item.result c.loop-place-test.true)))).0;
      }))
  | else-lt w ↦ subst (λ (ws : List Waiting). All (IsWaiting c.args.candidates.now) ws) (sym (ap (λ v. v.items) w.list-is)) c.loop-place.invariant
]
