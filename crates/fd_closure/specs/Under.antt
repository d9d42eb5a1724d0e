-- The closure of a column set under any list of dependencies.
use Rattle.std.specs.Prelude.{◌≡◌, nat_lt, true, List}
use Rattle.std.specs.List.{Contains, filter}
use Rattle.col_set.specs.ColSet.{Columns, IsSubset, has}
use Rattle.col_set.specs.declared.col_set.TheConstants.{MOST_COLUMNS}
use Rattle.rel_base.specs.declared.dependency.Fd.{Fd}

-- Y is closed: it has the right column of each listed dependency whose left side it has.
pub record IsClosed (fds : List Fd) (y : Columns) : Type 0 where
  pub each : (fd : Fd) → Contains fds fd → IsSubset fd.left y → has y fd.right ≡ true

-- Y is the closure of X: the least closed set that contains X (Armstrong, 1974; Beeri and Bernstein, 1979).
pub record IsClosure (fds : List Fd) (x y : Columns) : Type 0 where
  pub contains : IsSubset x y
  pub closed : IsClosed fds y
  pub smallest : (z : Columns) → IsSubset x z → IsClosed fds z → IsSubset y z

-- those of the dependencies that are on a column
unfoldable pub on_columns : List Fd → List Fd
on_columns fds = filter (λ fd. nat_lt fd.right MOST_COLUMNS) fds
