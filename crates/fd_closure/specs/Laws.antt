-- The laws of the definitions, which functions with an empty body ensure.
use Rattle.std.specs.Prelude.{◌≡◌, ◌<◌, ◌^◌, ℕ, true, ◌↔◌, List}
use Rattle.std.specs.List.{All}
use Rattle.col_set.specs.declared.col_set.TheConstants.{MOST_COLUMNS}
use Rattle.col_set.specs.ColSet.{Columns, IsSubset, has, subset}
use Rattle.rel_base.specs.RowState.{RowState, width}
use Rattle.rel_base.specs.Validity.{Holds}
use Rattle.rel_base.specs.declared.dependency.Fd.{Fd}
use Rattle.rel_base.specs.Covers.{IsInOrder, covers}
use Rattle.col_set.specs.declared.target.Target.TheVariants.{Col}
use Rattle.fd_closure.specs.Determined.{determined_columns, determines_all, Determines}
use Rattle.fd_closure.specs.Closure.{closure_of}
use Rattle.fd_closure.specs.Under.{IsClosure, on_columns}
use Rattle.fd_closure.specs.Keys.{shrunk, table_key}

-- The tests say what the facts say.
pub record TestsMean (r : RowState) : Type 0 where
  pub columns : (x : Columns) (a : ℕ) → a < width r → (has (determined_columns r x) a ≡ true) ↔ Holds r x (Col a)
  pub all : (x s : Columns) → (determines_all r x s ≡ true) ↔ Determines r x s

-- A set has one closure at most, and where every right side is a column, all dependencies are on columns.
pub record ClosuresMean (fds : List Fd) : Type 0 where
  pub one : (x y z : Columns) → IsClosure fds x y → IsClosure fds x z → y ≡ z
  pub columns : All (λ fd. fd.right < MOST_COLUMNS) fds → on_columns fds ≡ fds

-- By the covers of a row state the one pass finds what the rows say, and what all passes find.
pub record CoversTell (r : RowState) : Type 0 where
  pub order : IsInOrder (covers r).fds
  pub closure : (x : Columns) → x < 2 ^ width r → closure_of (covers r).fds x ≡ determined_columns r x
  pub determines : (x s : Columns) → x < 2 ^ width r → s < 2 ^ width r → subset s (closure_of (covers r).fds x) ≡ determines_all r x s
  pub under : (x : Columns) → x < 2 ^ width r → IsClosure (covers r).fds x (closure_of (covers r).fds x)
  pub key : (s : Columns) → s < 2 ^ width r → shrunk (λ x. subset s (closure_of (covers r).fds x)) MOST_COLUMNS s ≡ table_key r s

-- The key of a table lies in it, determines it, and no smaller set inside the key does.
pub record KeyMeans (r : RowState) (s : Columns) : Type 0 where
  pub inside : IsSubset (table_key r s) s
  pub determines : Determines r (table_key r s) s
  pub smallest : (x : Columns) → IsSubset x (table_key r s) → Determines r x s → x ≡ table_key r s
