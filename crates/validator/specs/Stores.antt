-- Stores of one snapshot.
use Rattle.std.specs.Prelude.{◌≡◌}
use Rattle.std.specs.List.{All}
use Rattle.rel_base.specs.CodeTable.{CodeTable}
use Rattle.validator.specs.declared.stores.Stores.{Stores}

-- each of them is of this snapshot
pub record AreOf (table : CodeTable) (stores : Stores) : Type 0 where
  pub own : stores.own ≡ table
  pub others : All (λ store. store ≡ table) stores.others.items
