use Rattle.std.proofs.Common.{◌∙◌, ℕ, ap}
use Rattle.std.specs.List.{find}
use Rattle.std.specs.Option.{option_map}
use Rattle.candidate_cover.specs.Cands.{from, is_fresh}
use Rattle.candidate_cover.specs.Marks.{cands}
use Rattle.candidate_cover.proofs.Remarked.{from_empty}
use Rattle.candidate_cover.proofs.cand_list.CandList.first_fresh.Goals as goal

pub returns-in-Some : goal.returns-in-Some
returns-in-Some c = ap (option_map (λ d. d.left)) (c.in-Some.ensures.found is_fresh (λ a b e. e.1) ∙ ap (find is_fresh) (ap (λ (x : ℕ). from x (cands c.args.self.now)) c.empty.ensures ∙ from_empty (cands c.args.self.now)))

pub returns-in-None : goal.returns-in-None
returns-in-None c = ap (option_map (λ d. d.left)) (c.in-None.ensures.found is_fresh (λ a b e. e.1) ∙ ap (find is_fresh) (ap (λ (x : ℕ). from x (cands c.args.self.now)) c.empty.ensures ∙ from_empty (cands c.args.self.now)))
