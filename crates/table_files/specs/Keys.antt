-- The minimal keys of tables, which are numbered from 1.
use Rattle.std.specs.Prelude.{◌==◌, not, ℕ, List, map}
use Rattle.std.specs.List.{enumerate_from, filter, flat_map}
use Rattle.col_set.specs.ColSet.{Columns}
use Rattle.rel_base.specs.declared.dependency.Table.{Table}
use Rattle.rel_base.specs.RowState.{RowState}
use Rattle.key_finder.specs.Keys.{keys_within}
use Rattle.lossless_join.specs.Parts.{projection_keys}

-- the minimal keys of a table, each with the table's number
abbrev pub numbered_keys : RowState → ℕ × Table → List (ℕ × Columns)
numbered_keys r numbered = map (λ key. (numbered.0, key)) (projection_keys r numbered.1.columns)

-- those of all tables
abbrev pub all_keys : RowState → List Table → List (ℕ × Columns)
all_keys r tables = flat_map (numbered_keys r) (enumerate_from 1 tables)

-- the minimal keys that a table has besides its key, each with the table's number
abbrev pub other_keys : RowState → ℕ × Table → List (ℕ × Columns)
other_keys r numbered = map (λ key. (numbered.0, key)) (filter (λ key. not (key == numbered.1.key)) (projection_keys r numbered.1.columns))

-- those of all tables
abbrev pub alternates : RowState → List Table → List (ℕ × Columns)
alternates r tables = flat_map (other_keys r) (enumerate_from 1 tables)

-- the minimal keys of a table by agree sets of n columns
abbrev pub numbered_keys_within : ℕ → List Columns → ℕ × Table → List (ℕ × Columns)
numbered_keys_within n ws numbered = map (λ key. (numbered.0, key)) (keys_within n ws numbered.1.columns)

abbrev pub all_keys_within : ℕ → List Columns → List Table → List (ℕ × Columns)
all_keys_within n ws tables = flat_map (numbered_keys_within n ws) (enumerate_from 1 tables)

-- those that it has besides its key
abbrev pub other_keys_within : ℕ → List Columns → ℕ × Table → List (ℕ × Columns)
other_keys_within n ws numbered = map (λ key. (numbered.0, key)) (filter (λ key. not (key == numbered.1.key)) (keys_within n ws numbered.1.columns))

abbrev pub alternates_within : ℕ → List Columns → List Table → List (ℕ × Columns)
alternates_within n ws tables = flat_map (other_keys_within n ws) (enumerate_from 1 tables)
