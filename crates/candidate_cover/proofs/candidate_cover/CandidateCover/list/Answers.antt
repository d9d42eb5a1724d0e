use Rattle.std.proofs.Common.{sym, subst}
use Rattle.col_set.specs.ColSet.{report_cmp}
use Rattle.col_set.specs.Lists.{Rises}
use Rattle.candidate_cover.specs.Cands.{lefts}
use Rattle.candidate_cover.proofs.Parts.{cands_order}
use Rattle.candidate_cover.proofs.candidate_cover.CandidateCover.list.Goals as goal

pub returns-clause-order : goal.returns-clause-order
returns-clause-order c = subst (λ cs. Rises report_cmp (lefts cs)) (sym c.in_ok-list.ensures.list) (cands_order c.cand_list.result.now c.in_ok-list.ensures.order)
