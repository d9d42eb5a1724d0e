use Rattle.std.proofs.Common.{◌∙◌, ap, subst}
use Rattle.std.specs.List.{find}
use Rattle.col_set.specs.ColSet.{report_cmp}
use Rattle.col_set.specs.Lists.{Rises}
use Rattle.candidate_cover.specs.Cands.{from, lefts}
use Rattle.candidate_cover.proofs.Parts.{cands_order}
use Rattle.candidate_cover.proofs.candidate_cover.CandidateCover.first_from.Goals as goal

pub returns-clause-found : goal.returns-clause-found
returns-clause-found g c = λ p f. c.first_from.ensures.found p f ∙ ap (λ cs. find p (from c.args.left cs)) c.cand_list.ensures

pub returns-clause-order : goal.returns-clause-order
returns-clause-order g c = subst (λ cs. Rises report_cmp (lefts cs)) c.cand_list.ensures (cands_order c.cand_list.result.now c.first_from.ensures.order)
