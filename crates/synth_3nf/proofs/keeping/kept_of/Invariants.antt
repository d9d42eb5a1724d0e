use Rattle.std.proofs.Common.{◌≡◌, ◌<◌, ◌++◌, List, length}
use Rattle.std.specs.List.{All}
use Rattle.col_set.specs.declared.col_set.TheConstants.{MOST_COLUMNS}
use Rattle.rel_base.specs.declared.dependency.Fd.{Fd}
use Rattle.synth_3nf.specs.Canonical.{tried, canonical}
use Rattle.synth_3nf.proofs.keeping.kept_of.Given as goal

abbrev pub invariant-loop-fd : goal.invariant-loop-fd
invariant-loop-fd l = record {
  kept : tried l.kept.items l.rest ≡ canonical l.fds;
  narrow : All (λ fd. fd.right < MOST_COLUMNS) l.kept.items;
  narrow_rest : All (λ fd. fd.right < MOST_COLUMNS) l.rest;
  before : List Fd;
  parts : before ++ l.rest ≡ l.fds;
}

abbrev pub decreases-loop-fd : goal.decreases-loop-fd
decreases-loop-fd l = length l.rest
