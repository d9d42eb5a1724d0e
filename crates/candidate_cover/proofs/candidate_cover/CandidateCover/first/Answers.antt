use Rattle.std.proofs.Common.{◌∙◌, ℕ, ap}
use Rattle.std.specs.List.{find}
use Rattle.candidate_cover.specs.Cands.{cands_of, from}
use Rattle.candidate_cover.proofs.Remarked.{from_empty}
use Rattle.candidate_cover.proofs.candidate_cover.CandidateCover.first.Goals as goal

pub returns : goal.returns
returns g c = λ p f. c.first_from.ensures.found p f ∙ ap (find p) (ap (λ (x : ℕ). from x (cands_of c.args.self.now c.args.target)) c.empty.ensures ∙ from_empty _)
