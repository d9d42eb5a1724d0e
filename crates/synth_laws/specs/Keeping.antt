-- What tables by synthesis keep of the dependencies.
use Rattle.std.specs.Prelude.{◌≡◌, ℕ, true, false, List, ◌∷◌, ◌++◌}
use Rattle.std.specs.List.{Contains}
use Rattle.col_set.specs.ColSet.{IsSubset, all, has}
use Rattle.rel_base.specs.declared.dependency.Fd.{Fd}
use Rattle.rel_base.specs.declared.dependency.Table.{Table}
use Rattle.synth_3nf.specs.Reached.{reached, follows}
use Rattle.synth_3nf.specs.Canonical.{canonical}
use Rattle.synth_3nf.specs.Tables.{synthesis}

-- The canonical dependencies are among those listed, each listed one follows from them, and none of them from those before and behind it.
pub record CanonicalMeans (fds : List Fd) : Type 0 where
  pub listed : (fd : Fd) → Contains (canonical fds) fd → Contains fds fd
  pub follow : (fd : Fd) → Contains fds fd → follows (canonical fds) fd ≡ true
  pub needed : (before : List Fd) (fd : Fd) (after : List Fd) → canonical fds ≡ before ++ fd ∷ after → follows (before ++ after) fd ≡ false

-- a table with both sides of a dependency
pub record HasBothSides (tables : List Table) (fd : Fd) : Type 0 where
  pub table : Table
  pub listed : Contains tables table
  pub left : IsSubset fd.left table.columns
  pub right : has table.columns fd.right ≡ true

-- Each canonical dependency has both sides in some table.
abbrev pub TablesKeep : ℕ → List Fd → Type 0
TablesKeep n fds = (fd : Fd) → Contains (canonical fds) fd → HasBothSides (synthesis n fds) fd

-- a table whose columns reach all n columns
pub record HasWhole (n : ℕ) (fds : List Fd) (tables : List Table) : Type 0 where
  pub table : Table
  pub listed : Contains tables table
  pub reaches : IsSubset (all n) (reached fds table.columns)

-- what a table's key is to it
pub record IsReachedByKey (fds : List Fd) (t : Table) : Type 0 where
  pub inside : IsSubset t.key t.columns
  pub reaches : IsSubset t.columns (reached fds t.key)

-- The key of each table reaches its columns, and the columns of some table reach all.
pub record TablesReach (n : ℕ) (fds : List Fd) : Type 0 where
  pub keys : (t : Table) → Contains (synthesis n fds) t → IsReachedByKey fds t
  pub whole : HasWhole n fds (synthesis n fds)
