-- The codes of a column as they are kept: the first of a list that snapshots share, and those behind them.
use Rattle.std.specs.Prelude.{◌≤◌, ◌++◌, ℕ, List, length, take}
use Rattle.rel_base.specs.CodeTable.{list_in}
use Rattle.rel_base.specs.PackedCodes.{packed}
use Rattle.row_log.specs.declared.codes.CodeList.{CodeList}

-- the list that snapshots share
abbrev pub shared_of : CodeList → List ℕ
shared_of c = list_in (λ shared. packed shared.value) c.shared

-- all codes, in order
abbrev pub codes_of : CodeList → List ℕ
codes_of c = take c.kept (shared_of c) ++ c.own.items

abbrev pub IsCodeList : CodeList → Type 0
IsCodeList c = c.kept ≤ length (shared_of c)
