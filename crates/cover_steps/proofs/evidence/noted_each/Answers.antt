use Rattle.std.proofs.Common.{◌≡◌, ◌∙◌, ℕ, false, Some, take, sym, subst}
use Rattle.std.specs.List.{All}
use Rattle.std.proofs.lemmas.List.{take_all}
use Rattle.std.proofs.lemmas.Option.{same_Some}
use Rattle.std.proofs.lemmas.Bool.{not-false}
use Rattle.least_sets.specs.Drafts.{is_news}
use Rattle.negative_cover.specs.declared.negative_cover.Witness.{Witness}
use Rattle.cover_steps.specs.Evidences.{IsEvidence}
use Rattle.cover_steps.specs.declared.evidence.News.{News}
use Rattle.cover_steps.proofs.Evidences.{All-next, All-still, same_option}
use Rattle.cover_steps.proofs.evidence.noted_each.Goals as goal
use Rattle.cover_steps.proofs.evidence.noted_each.Goals.{then-ne+in_ok-news, else-ne}

-- no news to what was noted
abbrev IsTold : News → Witness → Type 0
IsTold news e = is_news news.draft.width news.draft.agree_sets e.agree ≡ false

pub loop-evidence-preserved : goal.loop-evidence-preserved
loop-evidence-preserved c = elim c.if-ne.branch [
  | then-ne+in_ok-news w ↦ rw w.news-is (rw w.last-is (
    (λ r n ws a news. w.in_ok-news.ensures.news r n ws (subst (IsEvidence r) (sym c.evidence-item.is) (a c.loop-evidence.evidence-index c.evidence-item.result c.loop-evidence-test.true)) (c.loop-evidence.invariant.0 r n ws a news)),
    All-next (IsTold w.in_ok-news.news) c.args.found.now c.loop-evidence.evidence-index c.evidence-item.result c.loop-evidence-test.true c.evidence-item.is
        (All-still (IsTold c.loop-evidence.news) (IsTold w.in_ok-news.news) (take c.loop-evidence.evidence-index c.args.found.now) (λ e h. w.in_ok-news.ensures.kept e.agree h) c.loop-evidence.invariant.1)
        w.in_ok-news.ensures.told,
    (λ a q. subst (λ (z : ℕ). is_news w.in_ok-news.news.draft.width w.in_ok-news.news.draft.agree_sets z ≡ false) (same_Some c.evidence-item.result.agree a q) w.in_ok-news.ensures.told),
  ))
  | else-ne w ↦ rw w.news-is (rw w.last-is (
    c.loop-evidence.invariant.0,
    All-next (IsTold c.loop-evidence.news) c.args.found.now c.loop-evidence.evidence-index c.evidence-item.result c.loop-evidence-test.true c.evidence-item.is c.loop-evidence.invariant.1
        (c.loop-evidence.invariant.2 c.evidence-item.result.agree (same_option c.loop-evidence.last (Some c.evidence-item.result.agree) (not-false _ (sym c.ne.ensures ∙ w.if-ne.false)))),
    c.loop-evidence.invariant.2,
  ))
]

pub returns-clause-told : goal.returns-clause-told
returns-clause-told c = subst (All (IsTold c.loop-evidence.news)) (take_all c.loop-evidence.evidence-index c.args.found.now c.loop-evidence-test.false) c.loop-evidence.invariant.1
