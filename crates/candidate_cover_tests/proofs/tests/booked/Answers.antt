use Rattle.std.proofs.Common.{◌≡◌, [], ◌∙◌, ℕ, sym, ap}
use Rattle.col_set.specs.Evidence.{least}
use Rattle.candidate_cover.specs.Lists.{CandLists}
use Rattle.candidate_cover.specs.Cands.{width, cands_of, lefts}
use Rattle.candidate_cover.proofs.Targets.{width-opening, opening_least}
use Rattle.candidate_cover_tests.proofs.tests.booked.Goals as goal

pub returns-clause-least : goal.returns-clause-least
returns-clause-least c =
    let wide : width c.in_ok-cover.cover ≡ c.args.columns = ap width c.in_ok-cover.ensures ∙ width-opening c.args.columns in
    c.in_ok-book.ensures.least [] (ap (λ (k : CandLists). lefts (cands_of k c.args.target)) c.in_ok-cover.ensures ∙ opening_least c.args.columns c.args.target c.requires.target ∙ ap (λ (n : ℕ). least n [] c.args.target) (sym wide))
    ∙ ap (λ (n : ℕ). least n c.args.sets.now c.args.target) wide
