use Rattle.std.proofs.Common.{ℕ, sym, ap, ◌∙◌, Bool, None, if◌then◌else◌}
use Rattle.std.specs.List.{find}
use Rattle.candidate_cover.specs.Cands.{cands_of, from}
use Rattle.candidate_cover.proofs.Remarked.{from_empty}
use Rattle.cover_core.proofs.searching.first_concerned.Goals as goal

pub returns-clause-found : goal.returns-clause-found
returns-clause-found g c = λ p f.
    c.first_from.ensures.found p (λ k b h. f k b h) ∙ ap (find p) (ap (λ (x : ℕ). from x (cands_of c.args.candidates.now c.args.target)) c.empty.ensures ∙ from_empty (cands_of c.args.candidates.now c.args.target))
    ∙ ap (λ (b : Bool). if b then find p (cands_of c.args.candidates.now c.args.target) else None) (sym c.if-not-has.false ∙ c.has.ensures)
