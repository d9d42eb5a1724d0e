use Rattle.std.proofs.Common.{◌+◌, List, Option, IfSome, take, sym, subst}
use Rattle.std.specs.List.{AllZip}
use Rattle.candidate_cover.specs.Cands.{width}
use Rattle.candidate_cover.specs.declared.cand.Cand.{Cand}
use Rattle.col_set.specs.declared.target.Target.TheVariants.{Col}
use Rattle.cover_steps.specs.NewLists.{IsNewList, IsPlaced}
use Rattle.cover_steps.proofs.Drafting.{AllZip-more}
use Rattle.cover_steps.proofs.Putting.{IsNewList-drafted}
use Rattle.cover_steps.proofs.new_lists.drafted_lists.Goals as goal
use Rattle.cover_steps.proofs.new_lists.drafted_lists.Goals.{in-Some, in-None+in_ok-new_list-in-None}

pub loop-place-preserved : goal.loop-place-preserved
loop-place-preserved g c =
    let n = width c.args.candidates.now in
    let ws = c.args.draft.now.agree_sets in
    let N = IsNewList n ws c.args.candidates.now in
    let P = IsPlaced n ws c.args.candidates.now c.args.targets.now in
    record {
      made = c.taken_out.ensures.rest n ws c.args.candidates.now c.args.targets.now c.loop-place.invariant.made;
      listed = subst (λ (ls : List (Option (List Cand))). AllZip N (take (c.loop-place.place + 1) c.args.targets.now) ls) (sym c.in_ok-push.ensures.items)
          (AllZip-more N c.args.targets.now c.loop-place.place (Col 0) c.loop-place.new_lists.items c.match-taken_out.new_list c.loop-place-test.true c.loop-place.invariant.listed
          (elim c.match-taken_out.branch [
            | in-Some w ↦ subst (N _) (sym w.new_list-is) ((subst (λ (o : Option (Option (List Cand))). IfSome o (λ new_list. P (c.loop-place.place, new_list))) w.in-Some.is
                (c.taken_out.ensures.found n ws c.args.candidates.now c.args.targets.now c.loop-place.invariant.made)).is (Col 0))
            | in-None+in_ok-new_list-in-None w ↦ subst (N _) (sym w.new_list-is)
                (IsNewList-drafted n ws c.args.candidates.now _ w.in_ok-new_list-in-None.new_list w.in_ok-new_list-in-None.ensures.same w.in_ok-new_list-in-None.ensures.least w.in_ok-new_list-in-None.ensures.marks)
          ]));
    }
