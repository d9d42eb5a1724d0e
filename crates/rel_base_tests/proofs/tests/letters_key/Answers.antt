use Rattle.std.proofs.Common.{◌≡◌, ℕ, [], ◌∷◌, refl, sym, ap, ◌∙◌}
use Rattle.col_set.specs.ColSet.{with}
use Rattle.rel_base.specs.Covers.{CoverLists}
use Rattle.rel_base.proofs.Examples.{covers-letters}
use Rattle.rel_base_tests.proofs.tests.letters_key.Goals as goal

second : with 0 1 ≡ 2
unfolding with
second = refl

pub returns : goal.returns
returns c = ap (λ (v : CoverLists). v.keys) covers-letters ∙ ap (λ (x : ℕ). x ∷ []) (sym (c.with.ensures ∙ ap (λ (x : ℕ). with x 1) c.empty.ensures ∙ second))
