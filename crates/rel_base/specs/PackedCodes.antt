-- Packed codes as the list that they are.
use Rattle.std.specs.Prelude.{ℕ, List}
use Rattle.rel_base.specs.declared.packed_codes.PackedCodes.{PackedCodes}
use Rattle.rel_base.specs.declared.packed_codes.PackedCodes.TheVariants.{Bytes, Words, Full}

-- the list, whatever the width
abbrev pub packed : PackedCodes → List ℕ
packed (Bytes list) = list.items
packed (Words list) = list.items
packed (Full list) = list.items
