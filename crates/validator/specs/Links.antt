-- The chains that a store keeps.
use Rattle.std.specs.Prelude.{◌≡◌, ◌<◌, ◌+◌, List, [], length, Option, Some, None, slice_index_or}
use Rattle.std.specs.List.{All}
use Rattle.rel_base.specs.CodeTable.{CodeTable}
use Rattle.validator.specs.declared.links.Link.{Link}
use Rattle.validator.specs.Chains.{IsChain}

-- the chain links all rows of its column
pub record IsLink (s : CodeTable) (link : Link) : Type 0 where
  pub column : link.column < length s.codes
  pub chain : IsChain (slice_index_or s.codes link.column []) link.chain
  pub whole : length link.chain.before.items + 1 ≡ s.to

abbrev pub AreLinks : CodeTable → List Link → Type 0
AreLinks s links = All (IsLink s) links

-- the snapshot of which chains are: an earlier one if one is kept, and else this one
abbrev pub linked_of : {A : Type 0} → (A → CodeTable) → CodeTable → Option A → CodeTable
linked_of table s None = s
linked_of table s (Some earlier) = table earlier
