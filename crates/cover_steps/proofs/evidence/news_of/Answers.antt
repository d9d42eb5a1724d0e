use Rattle.std.proofs.Common.{◌∙◌, List, sym, subst}
use Rattle.negative_cover.specs.declared.negative_cover.Witness.{Witness}
use Rattle.candidate_cover.specs.Cands.{width}
use Rattle.cover_steps.specs.Evidences.{IsNews}
use Rattle.cover_steps.proofs.Drafting.{IfOk-with}
use Rattle.cover_steps.proofs.Evidences.{news_none}
use Rattle.cover_steps.proofs.evidence.news_of.Goals as goal

pub returns-clause-news : goal.returns-clause-news
returns-clause-news c = IfOk-with c.with.result c.with.ensures.news (λ news h r a.
    h r (width c.args.candidates.now) c.args.witnesses.now a
    (subst (λ (more : List Witness). IsNews r (width c.args.candidates.now) c.args.witnesses.now more c.in_ok-draft.draft) (sym c.new.ensures.items) (news_none r (width c.args.candidates.now) c.args.witnesses.now c.in_ok-draft.draft (c.in_ok-draft.ensures ∙ (λ i. record { width = width c.args.candidates.now; agree_sets = c.in_ok-agree_sets.ensures i })))))
