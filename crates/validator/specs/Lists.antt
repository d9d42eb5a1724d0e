-- The lists that have the codes which rows are compared by.
use Rattle.std.specs.Prelude.{◌≡◌, ℕ, List, [], Option, Some, None, slice_index_or}
use Rattle.col_set.specs.declared.target.Target.{Target}
use Rattle.col_set.specs.declared.target.Target.TheVariants.{Col}
use Rattle.rel_base.specs.CodeTable.{CodeTable}
use Rattle.validator.specs.declared.lists.Lists.{Lists}

-- the codes in the further column, if there is one
abbrev pub keys_of : CodeTable → Option ℕ → List ℕ
keys_of s None = []
keys_of s (Some b) = slice_index_or s.codes b []

-- the codes in the column that the target is, if it is one
abbrev pub AreTargets : CodeTable → Target → List ℕ → Type 0
AreTargets s t codes = (column : ℕ) → t ≡ Col column → codes ≡ slice_index_or s.codes column []

-- these codes are those in the further column and those in the target's
pub record AreLists (s : CodeTable) (by : Option ℕ) (t : Target) (lists : Lists) : Type 0 where
  pub keys : lists.keys ≡ keys_of s by
  pub targets : AreTargets s t lists.targets
