use Rattle.std.proofs.Common.{ℕ, List, Option, sym, subst, arith}
use Rattle.std.specs.List.{All}
use Rattle.std.proofs.lemmas.List.{get_or_default}
use Rattle.std.proofs.lemmas.List.Elements.{All-push}
use Rattle.candidate_cover.specs.Cands.{width}
use Rattle.candidate_cover.specs.declared.cand.Cand.{Cand}
use Rattle.col_set.specs.declared.target.Target.TheVariants.{Col}
use Rattle.cover_steps.specs.NewLists.{IsNewList, IsPlaced}
use Rattle.cover_steps.proofs.Putting.{IsNewList-drafted}
use Rattle.cover_steps.proofs.new_lists.drafted_in_turn.Goals as goal

pub loop-preserved : goal.loop-preserved
loop-preserved c =
    let n = width c.args.candidates.now in
    let ws = c.args.draft.now.agree_sets in
    let P = IsPlaced n ws c.args.candidates.now c.args.targets.now in
    subst (λ (ps : List (ℕ × Option (List Cand))). All P ps) (sym c.in_ok-push.ensures.items)
    (All-push P c.loop.made.items (c.fetch_add-place.result, c.in_ok-new_list.new_list) c.loop.invariant (record {
      within = let f = c.if-place-targets.false in omega arith;
      is = λ d. subst (λ t. IsNewList n ws c.args.candidates.now t c.in_ok-new_list.new_list) (get_or_default c.args.targets.now c.fetch_add-place.result (Col 0) d (let f = c.if-place-targets.false in omega arith))
          (IsNewList-drafted n ws c.args.candidates.now _ c.in_ok-new_list.new_list c.in_ok-new_list.ensures.same c.in_ok-new_list.ensures.least c.in_ok-new_list.ensures.marks);
    }))
