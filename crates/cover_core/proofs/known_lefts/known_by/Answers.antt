use Rattle.std.proofs.Common.{◌≡◌, ◌∙◌, ◌&&◌, ◌||◌, nat_lt, nat_le, true, ℕ, List, sym, ap, subst}
use Rattle.std.specs.List.{All, list_any}
use Rattle.col_set.specs.ColSet.{subset}
use Rattle.std.proofs.lemmas.List.Elements.{All-push}
use Rattle.col_set.specs.Lists.{Listed}
use Rattle.col_set.proofs.Places.{Listed-get_or}
use Rattle.candidate_cover.specs.declared.cand.Cand.{Cand}
use Rattle.cover_core.specs.KnownLefts.{IsKnownBy}
use Rattle.cover_core.specs.declared.waiting.Waiting.{Waiting}
use Rattle.cover_core.proofs.KnownLefts.{known_found}
use Rattle.cover_core.proofs.known_lefts.known_by.Goals as goal
use Rattle.cover_core.proofs.known_lefts.known_by.Goals.{then-is_known+in_ok-push, else-is_known}

pub loop-place-preserved : goal.loop-place-preserved
loop-place-preserved c = elim c.if-is_known.branch [
  | then-is_known+in_ok-push w ↦
      subst (λ (ws : List Waiting). All (IsKnownBy c.args.candidates.now c.args.from c.args.known.now) ws) (sym (ap (λ v. v.items) w.found-is ∙ w.in_ok-push.ensures.items))
      (All-push (IsKnownBy c.args.candidates.now c.args.from c.args.known.now) c.loop-place.found.items (record { places = w.places_of.result; target = c.args.known.now.target; near = c.loop-place.place; cand = c.cand-item.result }) c.loop-place.invariant
      (known_found c.args.candidates.now c.args.from c.args.next c.args.known.now c.cand-item.result w.places_of.result c.loop-place.place c.requires
      (subst (λ (cs : List Cand). Listed c.cand-item.result cs) (c.deref-cand-items.ensures.value ∙ c.in_ok-own.ensures.list)
      (subst (λ (d : Cand). Listed d c.deref-cand-items.result.now) (sym c.cand-item.is) (Listed-get_or c.deref-cand-items.result.now c.loop-place.place c.cand-item.result c.loop-place-test.true)))
      (subst (λ (xs : List ℕ). (nat_lt c.cand-item.result.upto c.args.next && (nat_le c.args.from c.cand-item.result.upto || list_any (λ y. subset y c.cand-item.result.left) xs)) ≡ true) c.as_slice.ensures.value (sym c.is_known.ensures ∙ w.if-is_known.true))))
  | else-is_known w ↦ subst (λ (ws : List Waiting). All (IsKnownBy c.args.candidates.now c.args.from c.args.known.now) ws) (sym (ap (λ v. v.items) w.found-is)) c.loop-place.invariant
]
