use Rattle.std.proofs.Common.{◌∙◌, sym, ap, subst}
use Rattle.col_set.specs.ColSet.{report_cmp}
use Rattle.col_set.specs.Lists.{Rises}
use Rattle.candidate_cover.specs.Cands.{lefts}
use Rattle.candidate_cover.proofs.Parts.{lefts-cands, cands_order}
use Rattle.candidate_cover.proofs.candidate_cover.CandidateCover.lefts.Goals as goal

pub returns-clause-lefts : goal.returns-clause-lefts
returns-clause-lefts c = c.sets.ensures.sets ∙ sym (lefts-cands c.cand_list.result.now) ∙ ap lefts c.cand_list.ensures

pub returns-clause-order : goal.returns-clause-order
returns-clause-order c = subst (λ cs. Rises report_cmp (lefts cs)) c.cand_list.ensures (cands_order c.cand_list.result.now c.sets.ensures.order)
