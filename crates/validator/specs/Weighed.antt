-- Partitions by single columns, and the columns' weights.
use Rattle.std.specs.Prelude.{◌≡◌, ◌<◌, ℕ, length}
use Rattle.rel_base.specs.CodeTable.{CodeTable}
use Rattle.validator.specs.Kept.{IsKept, weight_of}
use Rattle.validator.specs.declared.weighed.Weighed.{Weighed}

-- it is one of the columns
pub record IsColumn (s : CodeTable) (column : ℕ) : Type 0 where
  pub given : column < length s.codes
  pub bound : column < 128

-- the partition may be kept, and the weight is its column's
pub record IsWeighed (s : CodeTable) (weighed : Weighed) : Type 0 where
  pub kept : IsKept s weighed.kept
  pub bound : weighed.column < 128
  pub weight : weighed.weight ≡ weight_of s weighed.column
