-- The dependencies that stand behind one of a list in order.
use Rattle.std.specs.Prelude.{◌≡◌, ◌<◌, ◌≤◌, ℕ, nat_lt, List, ◌||◌, ◌&&◌}
use Rattle.std.specs.List.{All, AllPairs, Contains}
use Rattle.col_set.specs.ColSet.{Columns, has}
use Rattle.col_set.specs.declared.col_set.TheConstants.{MOST_COLUMNS}
use Rattle.rel_base.specs.declared.dependency.Fd.{Fd}
use Rattle.fd_closure.specs.Closure.{Tells, closure_of}

-- they are on the column a and on columns behind it, by ascending column
pub record AreFrom (a : ℕ) (later : List Fd) : Type 0 where
  pub from : All (λ fd. a ≤ fd.right) later
  pub climbing : AllPairs (λ one other. one.right ≤ other.right) later

-- the sides tell of a list of dependencies of which these are some, and of which those on columns behind a are all here
pub record TellsEnd (sides : List (Columns × Columns)) (a : ℕ) (later : List Fd) : Type 0 where
  pub fds : List Fd
  pub told : Tells fds sides
  pub narrow : All (λ fd. fd.right < MOST_COLUMNS) fds
  pub own : (fd : Fd) → Contains later fd → Contains fds fd
  pub behind : (fd : Fd) → Contains fds fd → a < fd.right → Contains later fd
  pub from : AreFrom a later

-- the start and what the one pass over the dependencies adds of the columns behind a
abbrev pub IsWithLater : List Fd → ℕ → Columns → Columns → Type 0
IsWithLater fds a start x = (k : ℕ) → has x k ≡ (has start k || (has (closure_of fds start) k && (nat_lt a k && nat_lt k MOST_COLUMNS)))
