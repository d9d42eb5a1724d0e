use Rattle.std.proofs.Common.{◌∙◌, ap, List}
use Rattle.candidate_cover.specs.declared.cand.Cand.{Cand}
use Rattle.candidate_cover.specs.Cands.{upto_of}
use Rattle.candidate_cover.proofs.Remarked.{value_upto, none_upto}
use Rattle.candidate_cover.proofs.candidate_cover.CandidateCover.upto_near.Goals as goal

pub returns-in-Some : goal.returns-in-Some
returns-in-Some c = value_upto c.cand_list.result.now c.args.x c.in-Some.mark c.in-Some.ensures.value ∙ ap (λ (cs : List Cand). upto_of cs c.args.x) c.cand_list.ensures

pub returns-in-None : goal.returns-in-None
returns-in-None c = none_upto c.cand_list.result.now c.args.x c.in-None.ensures.value ∙ ap (λ (cs : List Cand). upto_of cs c.args.x) c.cand_list.ensures
