-- The groups of a stripped partition in any order.
use Rattle.std.specs.Prelude.{ℕ, List}
use Rattle.col_set.specs.ColSet.{Columns}
use Rattle.col_set.specs.Lists.{Listed}
use Rattle.rel_base.specs.CodeTable.{CodeTable}
use Rattle.stripped_partition.specs.Stripped.{stripped}
use Rattle.stripped_partition.specs.Order.{Apart}

-- the same groups in any order, each once
pub record IsReordered (old new : List (List ℕ)) : Type 0 where
  pub kept : (g : List ℕ) → Listed g old → Listed g new
  pub only : (g : List ℕ) → Listed g new → Listed g old
  pub apart : Apart new

-- these are the groups of the stripped partition by X, each once
abbrev pub AreGroupsBy : CodeTable → Columns → List (List ℕ) → Type 0
AreGroupsBy s x groups = IsReordered (stripped s x) groups

-- they are those of the stripped partition by some columns
pub record AreGroupsOf (s : CodeTable) (groups : List (List ℕ)) : Type 0 where
  pub columns : Columns
  pub are : AreGroupsBy s columns groups
