-- The dependencies that are chosen, and their tables, have columns of the rows.
use Rattle.std.proofs.Common.{◌≡◌, ◌<◌, ◌^◌, ℕ, nat_le, List}
use Rattle.std.specs.List.{All}
use Rattle.col_set.specs.ColSet.{size}
use Rattle.col_set.specs.Lists.{Listed, Listed-filter_parts}
use Rattle.rel_base.specs.declared.dependency.Fd.{Fd}
use Rattle.rel_base.specs.declared.dependency.Table.{Table}
use Rattle.rel_base.specs.Covers.{covers}
use Rattle.rel_base.specs.RowState.{RowState, width}
use Rattle.rel_base.proofs.States.{All-from}
use Rattle.fd_closure.proofs.Closing.{covers-minimal}
use Rattle.synth_3nf.specs.Shorter.{shorter}
use Rattle.synth_3nf.proofs.Below.{synthesis-below}
use Rattle.synth_text.specs.Synthesize.{tables}

module _ (most : ℕ) (r : RowState) where
  listed : (fd : Fd) → Listed fd (shorter most (covers r).fds) → Listed fd (covers r).fds
  listed fd h = (Listed-filter_parts (λ (f : Fd). nat_le (size f.left) most) fd (covers r).fds h).0

  pub chosen-below : All (λ (fd : Fd). fd.left < 2 ^ width r) (shorter most (covers r).fds)
  chosen-below = All-from (λ (fd : Fd). fd.left < 2 ^ width r) (shorter most (covers r).fds) (λ fd h. (covers-minimal r fd (listed fd h)).below)

  pub tables_below : All (λ (t : Table). t.columns < 2 ^ width r) (tables most r)
  unfolding tables
  tables_below = synthesis-below (width r) (shorter most (covers r).fds) (All-from (λ (fd : Fd). fd.right < width r) (shorter most (covers r).fds) (λ fd h. (covers-minimal r fd (listed fd h)).column))
