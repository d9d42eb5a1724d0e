-- The numbers of an item.
use Rattle.std.specs.Prelude.{◌+◌, ◌<◌, ◌≤◌, ℕ, ⊤, length}
use Rattle.batch_update.specs.declared.item.Item.{Item}
use Rattle.batch_update.specs.declared.item.Item.TheVariants.{Batch, Bad, Report}

-- batches and records count from 1, and none of the item's has a number above n, nor has the record that ends the batch
abbrev pub IsNumberedTo : ℕ → Item → Type 0
IsNumberedTo n (Batch number first ops) = (0 < number) × (number ≤ n) × (0 < first) × (first + length ops ≤ n)
IsNumberedTo n (Bad number rec why) = (0 < number) × (number ≤ n) × (0 < rec) × (rec ≤ n)
IsNumberedTo n Report = ⊤
