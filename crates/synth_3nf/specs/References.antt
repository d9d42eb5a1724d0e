-- References between tables, which are numbered from 1.
use Rattle.std.specs.Prelude.{◌==◌, ◌&&◌, not, ℕ, Bool, List, map}
use Rattle.std.specs.List.{enumerate_from, filter, flat_map}
use Rattle.col_set.specs.ColSet.{Columns, empty, subset}
use Rattle.rel_base.specs.declared.dependency.Table.{Table}
use Rattle.synth_3nf.specs.declared.reference.Reference.{Reference}

-- whether a table has all columns of a key of another table, which has some
abbrev pub has_key_of_other : ℕ × Table → ℕ × Columns → Bool
has_key_of_other table key = not (key.0 == table.0) && not (key.1 == empty) && subset key.1 table.1.columns

-- the references of a table, by its number, to those whose keys these are, each key with its table's number
abbrev pub references_from : List (ℕ × Columns) → ℕ × Table → List Reference
references_from keys table = map (λ key. record { from = table.0; columns = key.1; to = key.0 }) (filter (has_key_of_other table) keys)

-- those of all tables
unfoldable pub references : List Table → List (ℕ × Columns) → List Reference
references tables keys = flat_map (references_from keys) (enumerate_from 1 tables)
