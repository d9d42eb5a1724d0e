use Rattle.std.proofs.Common.{◌≡◌, [], ◌∙◌, ℕ, List, sym, ap, subst, rules}
use Rattle.candidate_cover.specs.Lists.{CandLists}
use Rattle.candidate_cover.specs.Cands.{width, AreLeast}
use Rattle.candidate_cover.proofs.Targets.{opening, width-opening, opening_least}
use Rattle.candidate_cover_tests.proofs.tests.draft_of.Goals as goal

pub draft-requires : goal.draft-requires
draft-requires c =
    let none : c.new-2.result.items ≡ [] = search rules in
    let wide : width c.in_ok-cover.cover ≡ c.args.columns = ap width c.in_ok-cover.ensures ∙ width-opening c.args.columns in
    subst (λ (ws : List ℕ). AreLeast (width c.in_ok-cover.cover) ws c.in_ok-cover.cover) (sym none)
    (subst (λ (k : CandLists). AreLeast (width c.in_ok-cover.cover) [] k) (sym c.in_ok-cover.ensures)
    (subst (λ (n : ℕ). AreLeast n [] (opening c.args.columns)) (sym wide) (record { each = λ t l. opening_least c.args.columns t l })))
