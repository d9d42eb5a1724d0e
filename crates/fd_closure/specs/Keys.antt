-- The key of a table.
use Rattle.std.specs.Prelude.{if◌then◌else◌, ℕ, zero, suc, Bool, ◌&&◌}
use Rattle.col_set.specs.ColSet.{Columns, has, without}
use Rattle.rel_base.specs.RowState.{RowState, width}
use Rattle.fd_closure.specs.Determined.{determines_all}

-- the columns below n are tried in descending order, and each is dropped where the rest still passes
unfoldable pub shrunk : (Columns → Bool) → ℕ → Columns → Columns
shrunk passes zero x = x
shrunk passes (suc n) x = shrunk passes n (if has x n && passes (without x n) then without x n else x)

-- what is left of the columns of S where the rest has to determine S
unfoldable pub table_key : RowState → Columns → Columns
table_key r s = shrunk (λ x. determines_all r x s) (width r) s
