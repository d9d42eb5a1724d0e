use Rattle.std.proofs.Common.{◌≡◌, ℕ, List, [], ◌∷◌, refl, sym, ap, ◌∙◌}
use Rattle.col_set.specs.ColSet.{without, all}
use Rattle.rel_base.specs.declared.dependency.Fd.{Fd}
use Rattle.rel_base.specs.Covers.{CoverLists}
use Rattle.rel_base.proofs.Examples.{covers-letters}
use Rattle.rel_base_tests.proofs.tests.letters_fd.Goals as goal

second : without (all 2) 0 ≡ 2
unfolding without all
second = refl

to_first : ℕ → List Fd
to_first x = record { left = x; right = 0 } ∷ []

pub returns : goal.returns
unfolding to_first
returns c = ap (λ (v : CoverLists). v.fds) covers-letters ∙ ap to_first (sym (c.without.ensures ∙ ap (λ (x : ℕ). without x 0) c.all.ensures ∙ second))
