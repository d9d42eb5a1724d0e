use Rattle.std.proofs.Common.{◌≡◌, ◌∙◌, ℕ, List, map, sym, ap, ap₂, subst, IfSome, Option, Vec}
use Rattle.std.specs.declared.alloc.Global.{Global}
use Rattle.col_set.specs.Evidence.{least}
use Rattle.col_set.specs.ColSet.{report_cmp}
use Rattle.col_set.specs.Lists.{Rises}
use Rattle.col_set.proofs.More.{Rises-least}
use Rattle.candidate_cover.proofs.Toggling.{Rises-keys}
use Rattle.candidate_cover.proofs.Parts.{lefts-cands}
use Rattle.candidate_cover.specs.Cands.{lefts, kept_or_fresh}
use Rattle.candidate_cover.specs.declared.cand.Cand.{Cand}
use Rattle.candidate_cover.proofs.Drafted.{lefts_kept}
use Rattle.candidate_cover.proofs.candidate_cover.CandidateCover.drafted.Goals as goal

pub least_sets_unless-requires-clause-order : goal.least_sets_unless-requires-clause-order
least_sets_unless-requires-clause-order c = subst (Rises report_cmp) (sym c.sets.ensures.sets) (Rises-keys c.cand_list-list.result.now c.sets.ensures.order)

pub with_lefts-requires : goal.with_lefts-requires
with_lefts-requires c =
    let found : c.in-Some.sets.items ≡ least c.args.draft.now.width c.args.draft.now.agree_sets c.args.target
    = subst (λ (o : Option (Vec ℕ Global)). IfSome o (λ list. list.items ≡ least c.args.draft.now.width c.args.draft.now.agree_sets c.args.target)) c.in-Some.is c.in_ok-least_sets_unless.ensures.least in
    subst (Rises report_cmp) (sym found) (Rises-least c.args.draft.now.width c.args.draft.now.agree_sets c.args.target)

pub returns-in-None-clause-same : goal.returns-in-None-clause-same
returns-in-None-clause-same c = λ u.
    ap lefts (sym c.cand_list-list.ensures) ∙ lefts-cands c.cand_list-list.result.now ∙ sym c.sets.ensures.sets ∙ c.in_ok-least_sets_unless.ensures.same c.in-None.is
    ∙ ap (λ (n : ℕ). least n c.args.draft.now.agree_sets c.args.target) c.requires.width

pub returns-in_ok-with_lefts-in-Some-clause-least : goal.returns-in_ok-with_lefts-in-Some-clause-least
returns-in_ok-with_lefts-in-Some-clause-least c =
    let found : c.in-Some.sets.items ≡ least c.args.draft.now.width c.args.draft.now.agree_sets c.args.target
    = subst (λ (o : Option (Vec ℕ Global)). IfSome o (λ list. list.items ≡ least c.args.draft.now.width c.args.draft.now.agree_sets c.args.target)) c.in-Some.is c.in_ok-least_sets_unless.ensures.least in
    ap lefts (c.of.ensures ∙ c.in_ok-with_lefts-in-Some.ensures) ∙ lefts_kept _ c.in-Some.sets.items ∙ found ∙ ap (λ (n : ℕ). least n c.args.draft.now.agree_sets c.args.target) c.requires.width

pub returns-in_ok-with_lefts-in-Some-clause-marks : goal.returns-in_ok-with_lefts-in-Some-clause-marks
returns-in_ok-with_lefts-in-Some-clause-marks c =
    c.of.ensures ∙ c.in_ok-with_lefts-in-Some.ensures
    ∙ ap₂ (λ (cs : List Cand) (xs : List ℕ). map (kept_or_fresh cs) xs) c.cand_list-list.ensures (sym (lefts_kept _ c.in-Some.sets.items) ∙ sym (ap lefts (c.of.ensures ∙ c.in_ok-with_lefts-in-Some.ensures)))
