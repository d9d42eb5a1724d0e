-- The split of a row state's columns into tables.
use Rattle.std.specs.Prelude.{ℕ, zero, suc, List, [], ◌∷◌, ◌++◌, map, Some, None}
use Rattle.col_set.specs.ColSet.{Columns, union, inter, minus}
use Rattle.rel_base.specs.declared.dependency.Table.{Table}
use Rattle.rel_base.specs.RowState.{RowState}
use Rattle.fd_closure.specs.Determined.{determined_columns}
use Rattle.fd_closure.specs.Keys.{table_key}
use Rattle.bcnf_split.specs.Bcnf.{first_violation}

-- all that X determines in S outside X
unfoldable pub dependents : RowState → Columns → Columns → Columns
dependents r s x = minus (inter s (determined_columns r x)) x

-- S is a table where nothing violates it. Else, with the first X that does and all Y that X determines in S outside X,
-- its tables are those of S less Y, followed by those of X with Y. Both are smaller sets, and so smaller numbers: n of them in a
-- row are enough where S is at most n.
unfoldable pub splits_within : ℕ → RowState → Columns → List Columns
splits_within zero r s = s ∷ []
splits_within (suc n) r s = elim (first_violation r s) [
  | None ↦ s ∷ []
  | Some x ↦ splits_within n r (minus s (dependents r s x)) ++ splits_within n r (union x (dependents r s x))
]

abbrev pub splits : RowState → Columns → List Columns
splits r s = splits_within s r s

-- the tables, each with its key
abbrev pub tables_of : RowState → Columns → List Table
tables_of r s = map (λ t. record { columns = t; key = table_key r t }) (splits r s)
