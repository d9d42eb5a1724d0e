-- The width of an item.
use Rattle.std.specs.Prelude.{ℕ, ⊤}
use Rattle.std.specs.List.{All}
use Rattle.rel_base.specs.Batches.{IsAsWide}
use Rattle.batch_update.specs.declared.item.Item.{Item}
use Rattle.batch_update.specs.declared.item.Item.TheVariants.{Batch, Bad, Report}

-- the new rows of a batch are as wide as there are columns
abbrev pub IsWide : ℕ → Item → Type 0
IsWide columns (Batch number first ops) = All (IsAsWide columns) ops
IsWide columns (Bad number rec why) = ⊤
IsWide columns Report = ⊤
