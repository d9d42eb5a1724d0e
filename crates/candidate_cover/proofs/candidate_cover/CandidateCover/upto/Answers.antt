use Rattle.std.proofs.Common.{◌≡◌, ◌∙◌, ap, subst, List}
use Rattle.col_set.specs.Lists.{Listed}
use Rattle.candidate_cover.specs.declared.cand.Cand.{Cand}
use Rattle.candidate_cover.specs.Cands.{upto_of}
use Rattle.candidate_cover.proofs.Remarked.{listed_value, value_upto, none_upto}
use Rattle.candidate_cover.proofs.candidate_cover.CandidateCover.upto.Goals as goal

pub returns-in-Some-clause-listed : goal.returns-in-Some-clause-listed
returns-in-Some-clause-listed c = subst (λ (cs : List Cand). (x : Cand) × Listed x cs × (x.left ≡ c.args.x) × (x.upto ≡ c.in-Some.mark.upto)) c.cand_list.ensures (listed_value c.cand_list.result.now c.args.x c.in-Some.mark c.in-Some.ensures.value)

pub returns-in-Some-clause-value : goal.returns-in-Some-clause-value
returns-in-Some-clause-value c = value_upto c.cand_list.result.now c.args.x c.in-Some.mark c.in-Some.ensures.value ∙ ap (λ (cs : List Cand). upto_of cs c.args.x) c.cand_list.ensures

pub returns-in-None-clause-value : goal.returns-in-None-clause-value
returns-in-None-clause-value c = none_upto c.cand_list.result.now c.args.x c.in-None.ensures.value ∙ ap (λ (cs : List Cand). upto_of cs c.args.x) c.cand_list.ensures
