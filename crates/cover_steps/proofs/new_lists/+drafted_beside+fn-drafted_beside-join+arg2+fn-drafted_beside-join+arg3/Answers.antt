use Rattle.std.proofs.Common.{ℕ, List, Option, sym, subst, rules}
use Rattle.std.specs.List.{All}
use Rattle.std.proofs.lemmas.List.Elements.{All-append}
use Rattle.candidate_cover.specs.Cands.{width}
use Rattle.candidate_cover.specs.declared.cand.Cand.{Cand}
use Rattle.cover_steps.specs.NewLists.{IsPlaced}
use Rattle.cover_steps.proofs.new_lists.+drafted_beside+fn-drafted_beside-join+arg2+fn-drafted_beside-join+arg3.Goals as goal

pub returns : goal.returns
returns g t c =
    let P = IsPlaced (width c.args.candidates.now) c.args.draft.now.agree_sets c.args.candidates.now c.args.targets.now in
    let one : All P c.in_ok-made.made.items = search rules in
    let other : All P c.in_ok-more.more.items = search rules in
    subst (λ (ps : List (ℕ × Option (List Cand))). All P ps) (sym c.in_ok-append.ensures.items) (All-append P c.in_ok-made.made.items c.in_ok-more.more.items one other)
