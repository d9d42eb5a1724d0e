use Rattle.std.proofs.Common.{◌∙◌, ℕ, sym, ap, rules}
use Rattle.std.proofs.lemmas.Bool.{eqb-true}
use Rattle.col_set.specs.ColSet.{union}
use Rattle.set_tree.specs.Walks.{joined}
use Rattle.cover_cert.proofs.Told.{is-joined}
use Rattle.cover_cert.proofs.evidence.is_joined.Goals as goal

pub returns-then-any_subset_of : goal.returns-then-any_subset_of
returns-then-any_subset_of c = λ e.
    let made = c.fold_subsets_of.ensures.joined (λ a p. union a p.0) (λ a y v b h. search rules) in
    is-joined c.args.sets.now made.0 c.args.set (sym c.if-any_subset_of.ensures) made.1
    (ap (λ (a : ℕ). joined (λ (x : ℕ) (p : ℕ × Unit {0}). union x p.0) a made.0) (sym c.empty.ensures) ∙ sym made.2 ∙ eqb-true c.fold_subsets_of.result c.args.set (sym c.eq.ensures ∙ e))
