-- Laws of the rows that are to be removed, and of what is listed.
use Rattle.std.specs.Prelude.{◌≡◌, ◌<◌, ◌≤◌, ◌-◌, ◌↔◌, ℕ, true, length, map}
use Rattle.std.specs.List.{AllPairs, Contains}
use Rattle.std.specs.declared.cmp.Ordering.TheVariants.{Less}
use Rattle.col_set.specs.declared.target.Target.{Target}
use Rattle.col_set.specs.declared.target.Target.TheVariants.{Col, RowId}
use Rattle.col_set.specs.ColSet.{Columns, IsSubset, with, report_cmp}
use Rattle.rel_base.specs.CodeTable.{CodeTable}
use Rattle.rel_base.specs.RowState.{RowState, IsRowState, width}
use Rattle.rel_base.specs.Shows.{Shows}
use Rattle.rel_base.specs.Validity.{holds}
use Rattle.rel_base.specs.Covers.{covers, fd_cmp}
use Rattle.stripped_partition.specs.Stripped.{error_of, stripped}
use Rattle.stripped_partition.specs.Removed.{removed_of}
use Rattle.approx_fd.specs.declared.found.Approx.{Approx}
use Rattle.approx_fd.specs.declared.found.NearKey.{NearKey}
use Rattle.approx_fd.specs.Removal.{removed, IsRemoved, removed_in}
use Rattle.approx_fd.specs.Approximate.{approximate, near_keys, IsMinimalApprox}

-- ---- rows to be removed
-- The number of rows to be removed is what the fact says, and no other number is.
pub record RemovedMeans (r : RowState) (x : Columns) (t : Target) : Type 0 where
  pub is : IsRemoved r x t (removed r x t)
  pub alone : (k : ℕ) → IsRemoved r x t k → k ≡ removed r x t

-- It is told by the codes of a snapshot that shows the rows.
abbrev pub SnapshotsShowRemoved : Type 0
SnapshotsShowRemoved = (s : CodeTable) (r : RowState) → IsRowState r → Shows s r → (x : Columns) (t : Target) → removed_in s x t ≡ removed r x t

-- For a column it is the sum, over the groups that agree on X, of their sizes less their largest parts; for which row it is, of their sizes less one.
pub record SumsOverGroups (s : CodeTable) (x : Columns) : Type 0 where
  pub column : (a : ℕ) → a < length s.codes → removed_in s x (Col a) ≡ removed_of s a (stripped s x)
  pub row : removed_in s x RowId ≡ error_of (stripped s x)

-- More columns on the left never raise it.
abbrev pub MoreColumnsRemoveNoMore : Type 0
MoreColumnsRemoveNoMore = (r : RowState) (x y : Columns) (t : Target) → IsSubset x y → removed r y t ≤ removed r x t

-- None is to be removed exactly where X determines t.
abbrev pub NoneRemovedWhereItHolds : Type 0
NoneRemovedWhereItHolds = (r : RowState) (x : Columns) (t : Target) → (removed r x t ≡ 0) ↔ (holds r x t ≡ true)

-- For a column it is at most what X lacks to be unique, and at least what that falls by where the column is added.
pub record BoundsByUniqueness (r : RowState) (x : Columns) (a : ℕ) : Type 0 where
  pub most : removed r x (Col a) ≤ removed r x RowId
  pub least : removed r x RowId - removed r (with x a) RowId ≤ removed r x (Col a)

-- ---- what is listed
-- The lists have each minimal dependency and each minimal key that holds but for at most so many rows, once, in order, and nothing else.
pub record ApproximateListed (most : ℕ) (r : RowState) : Type 0 where
  pub fds : (f : Approx) → Contains (approximate most r) f ↔ ((f.fd.right < width r) × IsMinimalApprox most r f.fd.left (Col f.fd.right) f.removed)
  pub fds_in_order : AllPairs (λ f g. fd_cmp f.fd g.fd ≡ Less) (approximate most r)
  pub keys : (k : NearKey) → Contains (near_keys most r) k ↔ IsMinimalApprox most r k.columns RowId k.removed
  pub keys_in_order : AllPairs (λ j k. report_cmp j.columns k.columns ≡ Less) (near_keys most r)

-- Where no row may be removed the lists are the covers, each with 0.
pub record NoErrorsGiveCovers (r : RowState) : Type 0 where
  pub fds : approximate 0 r ≡ map (λ fd. record { fd = fd; removed = 0 }) (covers r).fds
  pub keys : near_keys 0 r ≡ map (λ x. record { columns = x; removed = 0 }) (covers r).keys
