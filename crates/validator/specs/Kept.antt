-- The partitions that a store keeps, and the weights of the columns.
use Rattle.std.specs.Prelude.{◌≡◌, ◌≢◌, ◌<◌, ℕ, true, List, length, slice_index}
use Rattle.std.specs.List.{All}
use Rattle.col_set.specs.ColSet.{Columns, has, with, empty}
use Rattle.rel_base.specs.CodeTable.{CodeTable}
use Rattle.stripped_partition.specs.Stripped.{stripped, error_of}
use Rattle.stripped_partition.specs.AnyOrder.{AreGroupsBy}
use Rattle.validator.specs.declared.cache.TheConstants.{UNKNOWN}
use Rattle.validator.specs.declared.cache.Kept.{Kept}

-- its groups are those by its columns, in any order
unfoldable pub IsKept : CodeTable → Kept → Type 0
IsKept s kept = AreGroupsBy s kept.columns kept.partition.value

abbrev pub AreKept : CodeTable → List Kept → Type 0
AreKept s kept = All (IsKept s) kept

-- a column's weight: how many rows it does not tell from an earlier one
abbrev pub weight_of : CodeTable → ℕ → ℕ
weight_of s column = error_of (stripped s (with empty column))

-- each is the weight of the column at its place, but for those that say that it is not known
abbrev pub AreWeights : CodeTable → List ℕ → Type 0
AreWeights s weights = (column : ℕ) → column < length weights → slice_index weights column ≢ UNKNOWN → slice_index weights column ≡ weight_of s column

-- the weights of these columns are known
abbrev pub AreKnown : CodeTable → Columns → List ℕ → Type 0
AreKnown s columns weights = (column : ℕ) → has columns column ≡ true → slice_index weights column ≡ weight_of s column
