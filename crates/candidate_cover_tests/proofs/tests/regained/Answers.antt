use Rattle.std.proofs.Common.{◌++◌, ◌∙◌, ℕ, sym, ap}
use Rattle.col_set.specs.Evidence.{least}
use Rattle.candidate_cover.specs.Cands.{width}
use Rattle.candidate_cover.proofs.Targets.{least_swapped}
use Rattle.candidate_cover_tests.proofs.tests.regained.Goals as goal

pub generalised-requires-clause-least : goal.generalised-requires-clause-least
generalised-requires-clause-least c =
    c.in_ok-book.ensures.least c.args.gone.now (c.in_ok-cover.ensures.least ∙ ap (λ (n : ℕ). least n c.args.gone.now c.args.target) (sym c.in_ok-cover.ensures.width))
    ∙ least_swapped (width c.in_ok-cover.cover) c.args.rest.now c.args.gone.now c.args.target
    ∙ ap (λ (n : ℕ). least n (c.args.rest.now ++ c.args.gone.now) c.args.target) (sym c.in_ok-book.ensures.width)
