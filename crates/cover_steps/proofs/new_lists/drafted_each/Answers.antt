use Rattle.std.proofs.Common.{◌+◌, List, Option, sym, subst, take}
use Rattle.std.specs.List.{AllZip}
use Rattle.candidate_cover.specs.Cands.{width}
use Rattle.candidate_cover.specs.declared.cand.Cand.{Cand}
use Rattle.cover_steps.specs.NewLists.{IsNewList}
use Rattle.cover_steps.proofs.Drafting.{AllZip-more}
use Rattle.cover_steps.proofs.Putting.{IsNewList-drafted}
use Rattle.cover_steps.proofs.new_lists.drafted_each.Goals as goal

pub loop-target-preserved : goal.loop-target-preserved
loop-target-preserved c =
    let n = width c.args.candidates.now in
    let ws = c.args.draft.now.agree_sets in
    let P = IsNewList n ws c.args.candidates.now in
    subst (λ (ls : List (Option (List Cand))). AllZip P (take (c.loop-target.target-index + 1) c.args.targets.now) ls) (sym c.in_ok-push.ensures.items)
    (AllZip-more P c.args.targets.now c.loop-target.target-index _ c.loop-target.new_lists.items c.in_ok-drafted.field-0 c.loop-target-test.true c.loop-target.invariant
    (IsNewList-drafted n ws c.args.candidates.now _ c.in_ok-drafted.field-0 c.in_ok-drafted.ensures.same c.in_ok-drafted.ensures.least c.in_ok-drafted.ensures.marks))
