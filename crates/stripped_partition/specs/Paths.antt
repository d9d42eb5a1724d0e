-- The levels of a path.
use Rattle.std.specs.Prelude.{◌≡◌, ℕ, List, length, replicate, Option, None, Some, ⊤}
use Rattle.std.specs.List.{All}
use Rattle.col_set.specs.ColSet.{Columns, empty}
use Rattle.rel_base.specs.CodeTable.{CodeTable}
use Rattle.stripped_partition.specs.AnyOrder.{AreGroupsBy}
use Rattle.stripped_partition.specs.declared.path.Level.{Level}
use Rattle.stripped_partition.specs.declared.path.Levels.{Levels}

-- the columns of the last level, or none
abbrev pub columns_of : Option Level → Columns
columns_of None = empty
columns_of (Some level) = level.columns

-- it has the groups by its columns
abbrev pub IsLevel : CodeTable → Level → Type 0
IsLevel s level = AreGroupsBy s level.columns level.partition

-- so does the last level
abbrev pub IsTop : CodeTable → Option Level → Type 0
IsTop s None = ⊤
IsTop s (Some level) = IsLevel s level

-- each level has the groups by its columns
pub record AreLevels (s : CodeTable) (levels : Levels) : Type 0 where
  pub before : All (IsLevel s) levels.below.items
  pub last : IsTop s levels.top

-- the partition by no column, the levels, and slots that are clear
pub record IsPath (s : CodeTable) (all : List (List ℕ)) (levels : Levels) (slots : List ℕ) : Type 0 where
  pub whole : AreGroupsBy s empty all
  pub each : AreLevels s levels
  pub clear : slots ≡ replicate (length slots) 0
