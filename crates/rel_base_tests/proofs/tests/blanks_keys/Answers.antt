use Rattle.std.proofs.Common.{◌≡◌, ℕ, [], ◌∷◌, refl, sym, ap, ap₂, ◌∙◌}
use Rattle.col_set.specs.ColSet.{without, all}
use Rattle.rel_base.specs.Covers.{CoverLists}
use Rattle.rel_base.proofs.Examples.{covers-blanks_distinct}
use Rattle.rel_base_tests.proofs.tests.blanks_keys.Goals as goal

first : all 1 ≡ 1
unfolding all
first = refl

second : without (all 2) 0 ≡ 2
unfolding without all
second = refl

pub returns : goal.returns
returns c = ap (λ (v : CoverLists). v.keys) covers-blanks_distinct
    ∙ ap₂ (λ (x y : ℕ). x ∷ y ∷ []) (sym (c.all.ensures ∙ first)) (sym (c.without.ensures ∙ ap (λ (x : ℕ). without x 0) c.all-2.ensures ∙ second))
