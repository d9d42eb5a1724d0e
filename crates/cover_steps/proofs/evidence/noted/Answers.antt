use Rattle.std.proofs.Common.{◌≡◌, ◌∙◌, ◌++◌, ◌∷◌, ap, sym, subst, Bool, true, false, [], ℕ, cond}
use Rattle.least_sets.specs.Drafts.{Drafted, is_news}
use Rattle.cover_steps.specs.Evidences.{IsNews}
use Rattle.cover_steps.proofs.Evidences.{news_more, noted_told, noted_kept}
use Rattle.cover_steps.proofs.evidence.noted.Goals as goal

-- the draft after a set that is news, and after one that is none
grown : (old new : Drafted) (z : ℕ) (b : Bool) → b ≡ true → new ≡ record { width = old.width; agree_sets = cond b (old.agree_sets ++ z ∷ []) old.agree_sets } → new ≡ record { width = old.width; agree_sets = old.agree_sets ++ z ∷ [] }
grown old new z b e is = is ∙ ap (λ (t : Bool). record { width = old.width; agree_sets = cond t (old.agree_sets ++ z ∷ []) old.agree_sets }) e

same : (old new : Drafted) (z : ℕ) (b : Bool) → b ≡ false → new ≡ record { width = old.width; agree_sets = cond b (old.agree_sets ++ z ∷ []) old.agree_sets } → new ≡ old
same old new z b e is = is ∙ ap (λ (t : Bool). record { width = old.width; agree_sets = cond t (old.agree_sets ++ z ∷ []) old.agree_sets }) e

pub returns-then-not-is_news-clause-news : goal.returns-then-not-is_news-clause-news
returns-then-not-is_news-clause-news c = λ r n ws is k.
    subst (λ (d : Drafted). IsNews r n ws c.args.news.witnesses.items d) (sym (same c.args.news.draft c.in_ok-draft.draft c.args.evidence.agree c.in_ok-draft.is_news c.if-not-is_news.true c.in_ok-draft.ensures.draft)) k

pub returns-then-not-is_news-clause-told : goal.returns-then-not-is_news-clause-told
returns-then-not-is_news-clause-told c =
    subst (λ (d : Drafted). is_news d.width d.agree_sets c.args.evidence.agree ≡ false) (sym (same c.args.news.draft c.in_ok-draft.draft c.args.evidence.agree c.in_ok-draft.is_news c.if-not-is_news.true c.in_ok-draft.ensures.draft))
    (sym c.in_ok-draft.ensures.news ∙ c.if-not-is_news.true)

pub returns-then-not-is_news-clause-kept : goal.returns-then-not-is_news-clause-kept
returns-then-not-is_news-clause-kept c = λ z h.
    subst (λ (d : Drafted). is_news d.width d.agree_sets z ≡ false) (sym (same c.args.news.draft c.in_ok-draft.draft c.args.evidence.agree c.in_ok-draft.is_news c.if-not-is_news.true c.in_ok-draft.ensures.draft)) h

pub returns-clause-news : goal.returns-clause-news
returns-clause-news c = λ r n ws is k.
    news_more r n ws c.args.news.witnesses.items c.push.new.self.items c.args.news.draft c.in_ok-draft.draft c.args.evidence k (sym c.in_ok-draft.ensures.news ∙ c.if-not-is_news.false) is
    (grown c.args.news.draft c.in_ok-draft.draft c.args.evidence.agree c.in_ok-draft.is_news c.if-not-is_news.false c.in_ok-draft.ensures.draft) c.in_ok-push.ensures.items

pub returns-clause-told : goal.returns-clause-told
returns-clause-told c =
    noted_told c.args.news.draft c.in_ok-draft.draft c.args.evidence.agree (grown c.args.news.draft c.in_ok-draft.draft c.args.evidence.agree c.in_ok-draft.is_news c.if-not-is_news.false c.in_ok-draft.ensures.draft)

pub returns-clause-kept : goal.returns-clause-kept
returns-clause-kept c = λ z h.
    noted_kept c.args.news.draft c.in_ok-draft.draft c.args.evidence.agree z (grown c.args.news.draft c.in_ok-draft.draft c.args.evidence.agree c.in_ok-draft.is_news c.if-not-is_news.false c.in_ok-draft.ensures.draft) h
