use Rattle.std.proofs.Common.{ℕ, List, [], ◌∷◌, sym, ap, ◌∙◌}
use Rattle.rel_base.specs.declared.dependency.Fd.{Fd}
use Rattle.rel_base.specs.Covers.{CoverLists}
use Rattle.rel_base.proofs.Examples.{covers-blanks_equal}
use Rattle.rel_base_tests.proofs.tests.blanks_fd.Goals as goal

to_first : ℕ → List Fd
to_first x = record { left = x; right = 0 } ∷ []

pub returns : goal.returns
unfolding to_first
returns c = ap (λ (v : CoverLists). v.fds) covers-blanks_equal ∙ ap to_first (sym c.empty.ensures)
