-- The covers of a row state: all its minimal keys and minimal dependencies.
use Rattle.std.specs.Prelude.{◌≡◌, ◌<◌, ℕ, List, map}
use Rattle.std.specs.List.{All, AllPairs, filter, flat_map}
use Rattle.std.specs.Ordering.{nat_cmp, on, then_cmp}
use Rattle.std.specs.declared.cmp.Ordering.{Ordering}
use Rattle.std.specs.declared.cmp.Ordering.TheVariants.{Less}
use Rattle.col_set.specs.ColSet.{Columns, upto, all_sets, report_cmp}
use Rattle.col_set.specs.declared.col_set.TheConstants.{MOST_COLUMNS}
use Rattle.col_set.specs.declared.target.Target.TheVariants.{Col, RowId}
use Rattle.col_set.specs.Evidence.{least}
use Rattle.rel_base.specs.declared.dependency.Fd.{Fd}
use Rattle.rel_base.specs.RowState.{RowState, width}
use Rattle.rel_base.specs.Minimality.{min_fd, min_key}

-- what `Covers` is seen as
pub record CoverLists : Type 0 where
  pub keys : List Columns
  pub fds : List Fd

-- the order of dependencies: by right column, then by left side in report order
abbrev pub fd_cmp : Fd → Fd → Ordering
fd_cmp = then_cmp (on (λ f. f.right) nat_cmp) (on (λ f. f.left) report_cmp)

-- keys in report order, each once
abbrev pub AreKeysInOrder : List Columns → Type 0
AreKeysInOrder keys = AllPairs (λ one other. report_cmp one other ≡ Less) keys

-- dependencies on columns, by right column, then by left side in report order, each once
pub record IsInOrder (fds : List Fd) : Type 0 where
  pub rising : AllPairs (λ one other. fd_cmp one other ≡ Less) fds
  pub narrow : All (λ fd. fd.right < MOST_COLUMNS) fds

-- what each value of `Covers` has
pub record AreInOrder (lists : CoverLists) : Type 0 where
  pub keys : AreKeysInOrder lists.keys
  pub fds : IsInOrder lists.fds

-- the dependencies of these left sides on one column
abbrev pub fds_to : ℕ → List Columns → List Fd
fds_to a lefts = map (λ x. record { left = x; right = a }) lefts

-- the covers that a list of agree sets of n columns leaves: its least sets for each target
unfoldable pub least_covers : ℕ → List Columns → CoverLists
least_covers n ws = record { keys = least n ws RowId; fds = flat_map (λ a. fds_to a (least n ws (Col a))) (upto n) }

-- the minimal keys in report order, and the minimal dependencies by right column, then by left side in report order
unfoldable pub covers : RowState → CoverLists
covers r = record {
  keys = filter (min_key r) (all_sets (width r));
  fds = flat_map (λ a. fds_to a (filter (λ x. min_fd r x a) (all_sets (width r)))) (upto (width r));
}
