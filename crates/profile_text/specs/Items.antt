-- Which items of a change text can be answered.
use Rattle.std.specs.Prelude.{◌<◌, ◌+◌, ◌^◌, ℕ, length, ⊤}
use Rattle.std.specs.List.{All}
use Rattle.rel_base.specs.Batches.{IsAsWide}
use Rattle.batch_update.specs.declared.item.Item.{Item}
use Rattle.batch_update.specs.declared.item.Item.TheVariants.{Batch, Bad, Report}

-- new rows are as wide as there are columns, and all numbers have less than 33 bits
abbrev pub IsAnswerable : ℕ → Item → Type 0
IsAnswerable columns (Batch number first ops) = (number < 2 ^ 32) × (first + length ops < 2 ^ 32) × All (IsAsWide columns) ops
IsAnswerable columns (Bad number rec why) = number < 2 ^ 32
IsAnswerable columns Report = ⊤
